use Rattle.tl_agg.specs.Groups.{AreAdvanced}
use Rattle.tl_agg.proofs.all_groups.all_runs.Given as goal

abbrev pub invariant-loop-value : goal.invariant-loop-value
invariant-loop-value l = AreAdvanced l.yielded l.to l.all.items
