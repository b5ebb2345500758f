use Rattle.std.proofs.Common.{◌≡◌, ◌++◌}
use Rattle.tl_batch.specs.Covers.{walk}
use Rattle.tl_batch.proofs.many_periods.ManyPeriods.gaps.Given as goal

abbrev pub invariant-loop-end : goal.invariant-loop-end
invariant-loop-end l = l.left.items ++ walk l.from l.to l.end-iterator ≡ walk l.fn.period.from l.to l.initial.end-iterator
