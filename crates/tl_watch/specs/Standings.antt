-- Standing aggregates: what the value of a plan is over the rows of a table that stand.
use Rattle.std.specs.Prelude.{ℕ, ◌+◌, Bool, ◌&&◌, not, List, [], ◌∷◌, length, map, Option, None, Some, if◌then◌else◌, sum_by}
use Rattle.std.specs.List.{filter}
use Rattle.tl_types.specs.declared.cells.Cell.{Cell}
use Rattle.tl_types.specs.History.{is_open, has_id, visible_rows}
use Rattle.tl_types.specs.Plain as plain
use Rattle.tl_query.specs.declared.ast.AggKind.{AggKind}
use Rattle.tl_query.specs.declared.typed_queries.TypedPred.{TypedPred}
use Rattle.tl_query.specs.Aggregates.{aggregate_of, has_value}
use Rattle.tl_query.specs.Ordered.{values_of}
use Rattle.tl_query.specs.Passing.{passes}
use Rattle.tl_watch.specs.declared.standings.Standing.{Standing}
use Rattle.tl_watch.specs.declared.plans.WatchPlan.{WatchPlan}

-- the rows of a table that stand after the last commit and pass
abbrev pub standing_rows : plain.Database → ℕ → TypedPred → List plain.Row
standing_rows db table pred =
    filter (passes pred) (map (λ r. r.1) (visible_rows db table db.version))

-- the aggregate of the rows of a group, and their number
abbrev pub value_over : AggKind → Option ℕ → Option Cell → List plain.Row → Standing
value_over kind column group rows =
    record { group = group; value = aggregate_of kind column rows; count = length rows }

-- the aggregate of rows, and their number; separated by a column, those of each value that the
-- column has in them, in order
abbrev pub values_over : AggKind → Option ℕ → Option ℕ → List plain.Row → List Standing
values_over kind column None rows = value_over kind column None rows ∷ []
values_over kind column (Some by) rows =
    map (λ value. value_over kind column (Some value) (filter (has_value by value) rows))
    (values_of by rows)

-- the values of a plan over a database
abbrev pub standing_of : plain.Database → WatchPlan → List Standing
standing_of db plan =
    values_over plan.kind plan.column plan.by (standing_rows db plan.table plan.pred)

-- WHILE A COMMIT IS TAKEN IN

-- the row with an id is current, is not among those that were closed, and passes
abbrev pub is_left : TypedPred → List ℕ → ℕ → plain.Row → Bool
is_left pred done id row = is_open row && (not (has_id done id) && passes pred row)

-- of rows whose ids begin with this one, those that are so
abbrev pub left_from : TypedPred → List ℕ → ℕ → List plain.Row → List plain.Row
left_from pred done id [] = []
left_from pred done id (row ∷ rows) =
    if is_left pred done id row
    then row ∷ left_from pred done (id + 1) rows
    else left_from pred done (id + 1) rows

-- the current rows that pass and are not among those that were closed
abbrev pub left_rows : TypedPred → List ℕ → List plain.Row → List plain.Row
left_rows pred done rows = left_from pred done 0 rows

-- the number of tests of a predicate
abbrev pub tests_in : TypedPred → ℕ
tests_in pred = sum_by length pred.any
