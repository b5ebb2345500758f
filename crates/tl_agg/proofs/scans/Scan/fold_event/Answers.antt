use Rattle.std.proofs.Common.{ap, sym, ◌∙◌}
use Rattle.tl_bits.specs.Sets.{is_member}
use Rattle.tl_agg.specs.Scans.{ScanOf}
use Rattle.tl_agg.proofs.StepLemmas.{takes_left}
use Rattle.tl_agg.proofs.scans.Scan.fold_event.Goals as goal

pub returns-clause-takes : goal.returns-clause-takes
returns-clause-takes g c =
    let keep = ap (λ (s : ScanOf). is_member s.keep c.args.event.row) c.self.view_is in
    takes_left c.args.self.now c.args.at c.args.event c.args.groups.now (sym keep ∙ sym c.test-is_kept.ensures.member ∙ c.if-is_kept.false)
