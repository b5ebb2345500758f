use Rattle.std.proofs.Common.{◌≡◌, ◌++◌, drop}
use Rattle.tl_log.specs.Listing.{column_lines}
use Rattle.tl_log.proofs.tables.put_columns.Given as goal

abbrev pub invariant-loop-place : goal.invariant-loop-place
invariant-loop-place l =
    l.out.items ++ column_lines l.schema l.words l.place (drop l.place l.schema.columns)
    ≡ l.initial.out.items ++ column_lines l.schema l.words 0 l.schema.columns
