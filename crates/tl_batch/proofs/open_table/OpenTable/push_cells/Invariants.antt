use Rattle.std.proofs.Common.{◌≡◌, ◌++◌, Some, take, slice_get}
use Rattle.tl_types.specs.Plain as plain
use Rattle.tl_batch.proofs.open_table.OpenTable.push_cells.Given as goal

abbrev pub invariant-loop-column : goal.invariant-loop-column
invariant-loop-column g l = (r : plain.Row) → slice_get l.self.rows l.row ≡ Some r → l.cells ≡ l.fn.cells ++ take l.column r.cells
