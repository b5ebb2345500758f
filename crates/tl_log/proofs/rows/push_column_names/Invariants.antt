use Rattle.std.proofs.Common.{◌≡◌, ◌++◌, map, take}
use Rattle.tl_log.specs.Rows.{name_field}
use Rattle.tl_log.proofs.rows.push_column_names.Given as goal

abbrev pub invariant-loop-column : goal.invariant-loop-column
invariant-loop-column l = record {
  rows : l.rows.rows ≡ l.initial.rows.rows;
  row : l.rows.row ≡ l.initial.rows.row ++ map name_field (take l.column-index l.columns);
}
