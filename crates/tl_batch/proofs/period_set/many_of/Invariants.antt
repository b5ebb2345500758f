use Rattle.std.proofs.Common.{◌≡◌, ℤ, take}
use Rattle.tl_batch.specs.Covers.{is_covered}
use Rattle.tl_batch.proofs.period_set.many_of.Given as goal

abbrev pub invariant-loop-stretch : goal.invariant-loop-stretch
invariant-loop-stretch l = (t : ℤ) → is_covered t l.many ≡ is_covered t (take l.stretch-index l.stretches)
