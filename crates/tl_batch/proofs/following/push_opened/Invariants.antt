use Rattle.std.proofs.Common.{◌≡◌, ℕ, ◌||◌, take}
use Rattle.tl_types.specs.declared.cells.Cell.{Cell}
use Rattle.tl_batch.specs.KeyIndex.{has_row}
use Rattle.tl_batch.specs.Standing.{opens_with}
use Rattle.tl_batch.proofs.following.push_opened.Given as goal

abbrev pub invariant-loop-i : goal.invariant-loop-i
invariant-loop-i l = (x : Cell) (n : ℕ) → has_row l.index x n ≡ (opens_with l.place l.first (take l.i l.rows) x n || has_row l.fn.index x n)
