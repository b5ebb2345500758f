use Rattle.std.proofs.Common.{◌≡◌, ℕ, ◌&&◌, nat_lt}
use Rattle.tl_types.specs.declared.cells.Cell.{Cell}
use Rattle.tl_types.specs.History.{database_of}
use Rattle.tl_store.specs.Reading.{row_of}
use Rattle.tl_batch.specs.KeyIndex.{has_row}
use Rattle.tl_batch.specs.Standing.{is_open_with}
use Rattle.tl_batch.proofs.making.add_open_from.Given as goal

abbrev pub invariant-loop-row : goal.invariant-loop-row
invariant-loop-row g l = (x : Cell) (n : ℕ) → has_row l.index x n ≡ (nat_lt n l.row && is_open_with l.place x (row_of (database_of l.store) l.number n))
