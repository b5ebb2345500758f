use Rattle.std.proofs.Common.{◌≡◌, drop}
use Rattle.tl_batch.specs.Covers.{first_begins}
use Rattle.tl_batch.proofs.few_periods.first_begins.Given as goal

abbrev pub invariant-loop-stretch : goal.invariant-loop-stretch
invariant-loop-stretch l = first_begins l.from l.to (drop l.stretch-index l.stretches) ≡ first_begins l.from l.to l.stretches
