-- The runs of an aggregate over the rows of one table.
use Rattle.std.specs.Prelude.{ℕ, List, Option, Some, None}
use Rattle.std.specs.List.{filter, flat_map}
use Rattle.tl_types.specs.declared.cells.Cell.{Cell}
use Rattle.tl_types.specs.declared.runs.Run.{Run}
use Rattle.tl_types.specs.Plain as plain
use Rattle.tl_query.specs.declared.ast.AggKind.{AggKind}
use Rattle.tl_query.specs.declared.typed_queries.Span.{Span}
use Rattle.tl_query.specs.declared.typed_queries.TypedPred.{TypedPred}
use Rattle.tl_query.specs.Passing.{passes}
use Rattle.tl_query.specs.Ordered.{values_of}
use Rattle.tl_query.specs.Aggregates.{has_value, runs_in, group_runs}
use Rattle.tl_plain.specs.Choosing.{there_at}

-- of the rows that have the value in the column, those that pass
abbrev pub group_rows : TypedPred → ℕ → Cell → List plain.Row → List plain.Row
group_rows pred by value rows = filter (passes pred) (filter (has_value by value) rows)

-- the runs of the group of a value that have a row
abbrev pub runs_of_group :
    AggKind → Option ℕ → TypedPred → Span → List plain.Row → ℕ → Cell → List Run
runs_of_group kind column pred span rows by value =
    group_runs kind column span (there_at span (group_rows pred by value rows)) value

-- the runs over all rows that pass, or those of each group
abbrev pub runs_over_rows :
    AggKind → Option ℕ → Option ℕ → TypedPred → Span → List plain.Row → List Run
runs_over_rows kind column None pred span rows =
    runs_in kind column span (there_at span (filter (passes pred) rows))
runs_over_rows kind column (Some by) pred span rows =
    flat_map (runs_of_group kind column pred span rows by) (values_of by rows)
