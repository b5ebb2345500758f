use Rattle.std.proofs.Common.{◌≡◌, map, take}
use Rattle.tl_store.specs.Columns.{cell_in}
use Rattle.tl_store.proofs.table.cells_at.Given as goal

abbrev pub invariant-loop-column : goal.invariant-loop-column
invariant-loop-column l = l.cells.items ≡ map (cell_in l.row) (take l.column-index l.columns)
