use Rattle.std.proofs.Common.{ap, sym, ◌∙◌}
use Rattle.tl_agg.specs.Scans.{ScanOf}
use Rattle.tl_agg.proofs.scans.Scan.fold_run.Goals as goal

pub run_all-requires-clause-kind : goal.run_all-requires-clause-kind
run_all-requires-clause-kind g c = c.requires.sums (sym (ap (λ (s : ScanOf). s.plan.by) c.self.view_is) ∙ c.in-None.is)
