use Rattle.std.proofs.Common.{◌≡◌, ◌+◌, drop}
use Rattle.tl_batch.specs.Covers.{ended}
use Rattle.tl_batch.proofs.few_periods.ended.Given as goal

abbrev pub invariant-loop-i : goal.invariant-loop-i
invariant-loop-i l = l.i + ended l.from (drop l.i l.stretches) ≡ ended l.from l.stretches
