use Rattle.std.proofs.Common.{◌≡◌, map, take}
use Rattle.tl_store.specs.Columns.{empty_column}
use Rattle.tl_store.proofs.table.empty_columns.Given as goal

abbrev pub invariant-loop-column : goal.invariant-loop-column
invariant-loop-column l = l.empty.items ≡ map (λ column. empty_column column.kind) (take l.column-index l.columns)
