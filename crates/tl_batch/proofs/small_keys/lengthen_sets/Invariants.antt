use Rattle.std.proofs.Common.{◌≡◌, ℕ, ◌-◌, ◌+◌, length}
use Rattle.tl_types.specs.declared.cells.Cell.{Cell}
use Rattle.tl_batch.specs.KeyIndex.{has_set}
use Rattle.tl_batch.proofs.small_keys.lengthen_sets.Given as goal

abbrev pub invariant-lengthening : goal.invariant-lengthening
invariant-lengthening l = (x : Cell) (n : ℕ) → has_set l.sets.items x n ≡ has_set l.fn.sets.items x n

abbrev pub decreases-lengthening : goal.decreases-lengthening
decreases-lengthening l = l.place + 1 - length l.sets.items
