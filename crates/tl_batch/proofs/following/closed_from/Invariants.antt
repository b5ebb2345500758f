use Rattle.std.proofs.Common.{◌≡◌, ℕ, ◌&&◌, take, slice_get}
use Rattle.tl_types.specs.declared.cells.Cell.{Cell}
use Rattle.tl_types.specs.History.{database_of, rows_of, has_id}
use Rattle.tl_batch.specs.ClosedRows.{has_keyed}
use Rattle.tl_batch.specs.Standing.{has_key}
use Rattle.tl_batch.proofs.following.closed_from.Given as goal

abbrev pub invariant-loop-id : goal.invariant-loop-id
invariant-loop-id g l = (x : Cell) (n : ℕ) → has_keyed l.closed.items x n ≡ (has_id (take l.id-index l.change.closes) n && has_key l.place x (slice_get (rows_of (database_of l.store) l.change.table) n))
