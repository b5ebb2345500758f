-- The rows that a batch puts.
use Rattle.std.specs.Prelude.{List}
use Rattle.tl_types.specs.Plain as plain
use Rattle.tl_batch.specs.declared.put_rows.PutRows.{PutRows}
use Rattle.tl_batch.specs.declared.put_rows.PutRows.TheVariants.{Lent, Owned}

-- the rows, lent or handed over
abbrev pub rows_put : PutRows → List plain.Opened
rows_put (Lent rows) = rows.now
rows_put (Owned rows) = rows.items
