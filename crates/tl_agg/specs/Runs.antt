-- The runs of an aggregate over versions.
use Rattle.std.specs.Prelude.{ℕ, ℤ, Bool, List, Option, Some, None}
use Rattle.std.specs.List.{filter, flat_map}
use Rattle.tl_types.specs.declared.cells.Cell.{Cell}
use Rattle.tl_types.specs.declared.runs.Run.{Run}
use Rattle.tl_types.specs.Plain as plain
use Rattle.tl_types.specs.Walks.{standing}
use Rattle.tl_query.specs.declared.ast.AggKind.{AggKind}
use Rattle.tl_query.specs.declared.typed_queries.AggPlan.{AggPlan}
use Rattle.tl_query.specs.declared.typed_queries.Span.TheVariants as span
use Rattle.tl_query.specs.Aggregates.{has_value, runs_in, group_runs}
use Rattle.tl_query.specs.Ordered.{values_of}
use Rattle.tl_agg.specs.Kept.{both, kept_at}

-- the kept rows at a moment that have the value in the column
abbrev pub kept_with : List plain.Row → List Bool → ℕ → Cell → ℤ → List plain.Row
kept_with rows keep by value moment = filter (has_value by value) (kept_at rows keep moment)

-- the runs of an aggregate of the kept rows over the versions from one up to before another;
-- separated by a column, those of each value that the column has in the rows, in order
abbrev pub runs_by : AggKind → Option ℕ → Option ℕ → List plain.Row → List Bool → ℕ → ℕ → List Run
runs_by kind column None rows keep from to =
    runs_in kind column (span.System from to) (kept_at rows keep)
runs_by kind column (Some by) rows keep from to =
    flat_map (λ value. group_runs kind column (span.System from to)
    (kept_with rows keep by value) value)
    (values_of by rows)

-- the runs that a plan asks for of the rows of its table
abbrev pub system_runs : AggPlan → List plain.Row → List Bool → ℕ → ℕ → List Run
system_runs plan rows keep from to = runs_by plan.kind plan.column plan.by rows keep from to

-- the start set of a piece: the kept rows that stand at its first version
abbrev pub start_set : List plain.Row → List Bool → ℕ → List Bool
start_set rows keep from = both (standing rows from) keep
