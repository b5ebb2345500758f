use Rattle.std.proofs.Common.{◌≡◌, ◌++◌, drop}
use Rattle.tl_batch.specs.Covers.{gaps}
use Rattle.tl_batch.proofs.few_periods.gaps_between.Given as goal

abbrev pub invariant-loop-stretch : goal.invariant-loop-stretch
invariant-loop-stretch l = l.left.items ++ gaps l.start l.to (drop l.stretch-index l.stretches) ≡ gaps l.from l.to l.stretches
