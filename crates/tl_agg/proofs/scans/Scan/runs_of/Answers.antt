use Rattle.std.proofs.Common.{◌-◌, ap, sym, ◌∙◌, subst, arith}
use Rattle.tl_types.specs.Walks.{standing}
use Rattle.tl_index.specs.Tables.{rows_in}
use Rattle.tl_agg.specs.Groups.{IsAdvanced}
use Rattle.tl_agg.specs.Scans.{ScanOf, IsScan, AreAllAdvanced}
use Rattle.tl_agg.proofs.PieceLemmas.{piece_runs}
use Rattle.tl_agg.proofs.ByLemmas.{groups_told}
use Rattle.tl_agg.proofs.scans.Scan.runs_of.Goals as goal

pub returns-in_ok-runs-in-None : goal.returns-in_ok-runs-in-None
returns-in_ok-runs-in-None c =
    let to = ap (λ (s : ScanOf). s.to) c.self.view_is in
    let by = sym (ap (λ (s : ScanOf). s.plan.by) c.self.view_is) ∙ c.in-None.is in
    piece_runs c.args.self.now c.args.groups c.in_ok-runs-in-None.runs.items by c.requires
    (subst (λ t. IsAdvanced c.args.groups.all t c.in_ok-runs-in-None.runs.items) to c.in_ok-runs-in-None.ensures)

pub returns-in_ok-runs-in-Some : goal.returns-in_ok-runs-in-Some
returns-in_ok-runs-in-Some c =
    let scan = subst IsScan c.self.view_is c.self.invariant.is_scan in
    let later = scan.later in
    let to = ap (λ (s : ScanOf). s.to) c.self.view_is in
    let by = sym (ap (λ (s : ScanOf). s.plan.by) c.self.view_is) ∙ c.in-Some.is in
    groups_told c.args.self.now c.in-Some.field-0 (standing (rows_in c.args.self.now.table) (c.args.self.now.to - 1)) c.args.groups c.in_ok-runs-in-Some.runs.items by (omega arith) c.requires
    (subst (λ t. AreAllAdvanced c.args.groups.by t c.in_ok-runs-in-Some.runs.items) to c.in_ok-runs-in-Some.ensures)
