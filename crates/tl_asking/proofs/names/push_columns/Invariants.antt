use Rattle.std.proofs.Common.{◌≡◌, ◌++◌, map, take}
use Rattle.tl_types.specs.declared.answers.Field.TheVariants as field
use Rattle.tl_asking.specs.Names.{names_under}
use Rattle.tl_asking.proofs.names.push_columns.Given as goal

-- the names so far
abbrev pub invariant-loop-column : goal.invariant-loop-column
invariant-loop-column l = record {
  rows : l.row.rows ≡ l.fn.row.rows;
  row : l.row.row ≡ l.fn.row.row ++ map field.Text (names_under l.table (take l.column-index l.columns));
}
