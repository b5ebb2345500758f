-- Aggregates over time.
use Rattle.std.specs.Prelude.{ℕ, ℤ, pos, negsuc, ◌+ℤ◌, Bool, not, ◌==◌, List, [], ◌∷◌, length, map, Option, Some, None}
use Rattle.std.specs.List.{filter, filter_map, flat_map, fold}
use Rattle.std.specs.Int.{int_min, int_max}
use Rattle.tl_types.specs.declared.cells.Cell.{Cell}
use Rattle.tl_types.specs.declared.cells.Cell.TheVariants as cell
use Rattle.tl_types.specs.declared.cells.Cmp.TheVariants as cmp
use Rattle.tl_types.specs.declared.answers.Field.{Field}
use Rattle.tl_types.specs.declared.answers.Field.TheVariants as field
use Rattle.tl_types.specs.declared.runs.Run.{Run}
use Rattle.tl_types.specs.History.{visible_rows, rows_of, rows_valid_at, cell_at}
use Rattle.tl_types.specs.Plain as plain
use Rattle.tl_query.specs.declared.ast.AggKind.{AggKind}
use Rattle.tl_query.specs.declared.ast.AggKind.TheVariants as kind
use Rattle.tl_query.specs.declared.typed_queries.Span.{Span}
use Rattle.tl_query.specs.declared.typed_queries.Span.TheVariants as span
use Rattle.tl_query.specs.declared.typed_queries.TypedPred.{TypedPred}
use Rattle.tl_query.specs.Passing.{passes, passes_test}
use Rattle.tl_types.specs.Runs.{runs_of}
use Rattle.tl_query.specs.Ordered.{values_of}

-- OF A LIST OF ROWS

-- a number, where the cell is one
abbrev pub number_of : Option Cell → Option ℤ
number_of None = None
number_of (Some (cell.Int i)) = Some i
number_of (Some (cell.Text t)) = None

-- the number of a row in the column that is aggregated
abbrev pub number_at : Option ℕ → plain.Row → Option ℤ
number_at None row = None
number_at (Some column) row = number_of (cell_at row.cells column)

-- the numbers of rows in the column that is aggregated
abbrev pub numbers_of : Option ℕ → List plain.Row → List ℤ
numbers_of column rows = filter_map (number_at column) rows

-- the sum of numbers
abbrev pub total_of : List ℤ → ℤ
total_of numbers = fold ◌+ℤ◌ (pos 0) numbers

-- the sum of numbers; over none there is nothing
abbrev pub sum_field : List ℤ → Field
sum_field [] = field.Empty
sum_field (x ∷ xs) = field.Number (total_of (x ∷ xs))

-- the sum of numbers over their count; over none there is nothing
abbrev pub average_field : List ℤ → Field
average_field [] = field.Empty
average_field (x ∷ xs) = field.Ratio (total_of (x ∷ xs)) (length (x ∷ xs))

-- the least of numbers; over none there is nothing
abbrev pub least_field : List ℤ → Field
least_field [] = field.Empty
least_field (x ∷ xs) = field.Number (fold int_min x xs)

-- the greatest of numbers; over none there is nothing
abbrev pub greatest_field : List ℤ → Field
greatest_field [] = field.Empty
greatest_field (x ∷ xs) = field.Number (fold int_max x xs)

-- the aggregate of rows
abbrev pub aggregate_of : AggKind → Option ℕ → List plain.Row → Field
aggregate_of kind.Count column rows = field.Number (pos (length rows))
aggregate_of kind.Sum column rows = sum_field (numbers_of column rows)
aggregate_of kind.Avg column rows = average_field (numbers_of column rows)
aggregate_of kind.Min column rows = least_field (numbers_of column rows)
aggregate_of kind.Max column rows = greatest_field (numbers_of column rows)

-- OVER TIME

-- the first moment of a range
abbrev pub span_start : Span → ℤ
span_start (span.System from to) = pos from
span_start (span.Valid version from to) = from

-- the moment that ends a range
abbrev pub span_end : Span → ℤ
span_end (span.System from to) = pos to
span_end (span.Valid version from to) = to

-- the rows of a table that stand at a version, none before the first
abbrev pub standing_at : plain.Database → ℕ → ℤ → List (ℕ × plain.Row)
standing_at db table (pos version) = visible_rows db table version
standing_at db table (negsuc n) = []

-- the rows of a table at a moment of the range's time: those that stand at a version, or those that
-- are valid at a moment and stand at the range's version
abbrev pub rows_at : plain.Database → ℕ → Span → ℤ → List (ℕ × plain.Row)
rows_at db table (span.System from to) moment = standing_at db table moment
rows_at db table (span.Valid version from to) moment =
    rows_valid_at moment (visible_rows db table version)

-- those of them that pass
abbrev pub passing_at : plain.Database → ℕ → TypedPred → Span → ℤ → List plain.Row
passing_at db table pred span moment =
    filter (passes pred) (map (λ r. r.1) (rows_at db table span moment))

-- the row has the value in the column
abbrev pub has_value : ℕ → Cell → plain.Row → Bool
has_value column value row =
    passes_test row (record { column = column; cmp = cmp.Eq; value = value })

-- the rows that pass and have the value in the column, at a moment
abbrev pub group_at : plain.Database → ℕ → TypedPred → Span → ℕ → Cell → ℤ → List plain.Row
group_at db table pred span by value moment =
    filter (has_value by value) (passing_at db table pred span moment)

-- the runs of the aggregate over the rows that rows gives at each moment of the range
abbrev pub runs_in : AggKind → Option ℕ → Span → (ℤ → List plain.Row) → List Run
runs_in kind column span rows =
    runs_of (λ moment. aggregate_of kind column (rows moment)) (span_start span) (span_end span)

-- a run of the group of a value
abbrev pub in_group : Cell → Run → Run
in_group value run = record run { group = Some value }

-- the runs that have a row
abbrev pub with_rows : (ℤ → List plain.Row) → List Run → List Run
with_rows rows runs = filter (λ run. not (length (rows run.from) == 0)) runs

-- of the group of a value the runs that have a row
abbrev pub group_runs : AggKind → Option ℕ → Span → (ℤ → List plain.Row) → Cell → List Run
group_runs kind column span rows value =
    map (in_group value) (with_rows rows (runs_in kind column span rows))

-- the runs of an aggregate over time; separated by a column, those of each value that the column
-- has in the table, in order
unfoldable pub aggregate_runs : plain.Database → ℕ → AggKind → Option ℕ → Option ℕ → TypedPred
    → Span → List Run
aggregate_runs db table kind column None pred span =
    runs_in kind column span (passing_at db table pred span)
aggregate_runs db table kind column (Some by) pred span =
    flat_map (λ value. group_runs kind column span (group_at db table pred span by value) value)
    (values_of by (rows_of db table))
