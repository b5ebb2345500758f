use Rattle.std.proofs.Common.{◌≡◌, ◌+◌, ◌++◌, ◌≤◌, Some, map, take}
use Rattle.tl_types.specs.History.{database_of}
use Rattle.tl_types.specs.Plain as plain
use Rattle.tl_query.specs.Fields.{cell_field}
use Rattle.tl_store.specs.Reading.{row_of}
use Rattle.tl_exec.proofs.shown_pairs.push_cells.Given as goal

abbrev pub invariant-loop-column : goal.invariant-loop-column
invariant-loop-column g l = record {
  rows : l.rows.rows ≡ l.initial.rows.rows;
  cells : (r : plain.Row) → row_of (database_of l.store) l.table l.row ≡ Some r → l.rows.row ≡ l.initial.rows.row ++ map cell_field (take l.column r.cells);
  steps : l.steps ≤ l.initial.steps + l.column;
}
