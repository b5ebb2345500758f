use Rattle.std.proofs.Common.{◌≡◌, ◌++◌, Some, drop, slice_get}
use Rattle.tl_types.specs.Plain as plain
use Rattle.tl_log.specs.Rows.{cells_from}
use Rattle.tl_log.proofs.rows.push_cells.Given as goal

abbrev pub invariant-loop-place : goal.invariant-loop-place
invariant-loop-place g l = record {
  rows : l.rows.rows ≡ l.initial.rows.rows;
  row : (r : plain.Row) → slice_get l.table.rows l.row ≡ Some r →
      l.rows.row ++ cells_from r.cells l.place (drop l.place l.table.schema.columns) ≡ l.initial.rows.row ++ cells_from r.cells 0 l.table.schema.columns;
}
