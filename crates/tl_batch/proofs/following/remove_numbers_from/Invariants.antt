use Rattle.std.proofs.Common.{◌≡◌, ℕ, ◌&&◌, not, take}
use Rattle.tl_types.specs.declared.cells.Cell.{Cell}
use Rattle.tl_batch.specs.ClosedRows.{closes_number}
use Rattle.tl_batch.specs.KeyIndex.{has_row}
use Rattle.tl_batch.proofs.following.remove_numbers_from.Given as goal

abbrev pub invariant-loop-id : goal.invariant-loop-id
invariant-loop-id g l = (x : Cell) (n : ℕ) → has_row l.index x n ≡ (not (closes_number (take l.id-index l.closes) l.keys x n) && has_row l.fn.index x n)
