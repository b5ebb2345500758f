use Rattle.std.proofs.Common.{◌≡◌, ℕ, ◌&&◌, not, take}
use Rattle.tl_types.specs.declared.cells.Cell.{Cell}
use Rattle.tl_batch.specs.ClosedRows.{has_keyed}
use Rattle.tl_batch.specs.KeyIndex.{has_row}
use Rattle.tl_batch.proofs.following.remove_keyed.Given as goal

abbrev pub invariant-loop-row : goal.invariant-loop-row
invariant-loop-row l = (x : Cell) (n : ℕ) → has_row l.index x n ≡ (not (has_keyed (take l.row-index l.closed) x n) && has_row l.fn.index x n)
