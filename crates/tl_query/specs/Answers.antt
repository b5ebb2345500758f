-- What a checked query is answered with.
use Rattle.std.specs.Prelude.{ℕ, ℤ, List, [], ◌∷◌, ◌++◌, map, Option, Some, None, slice_get}
use Rattle.std.specs.List.{filter}
use Rattle.tl_types.specs.declared.cells.Cell.{Cell}
use Rattle.tl_types.specs.declared.answers.Field.{Field}
use Rattle.tl_types.specs.declared.runs.Run.{Run}
use Rattle.tl_types.specs.declared.runs.Pair.{Pair}
use Rattle.tl_types.specs.History.{visible_rows, rows_of, rows_valid_at}
use Rattle.tl_types.specs.Plain as plain
use Rattle.tl_query.specs.declared.typed_queries.Typed.{Typed}
use Rattle.tl_query.specs.declared.typed_queries.Typed.TheVariants as typed
use Rattle.tl_query.specs.declared.typed_queries.TypedItem.{TypedItem}
use Rattle.tl_query.specs.declared.typed_queries.TypedPred.{TypedPred}
use Rattle.tl_query.specs.Passing.{passes}
use Rattle.tl_query.specs.Fields.{cell_field, moment_field, row_fields}
use Rattle.tl_query.specs.Aggregates.{aggregate_runs}
use Rattle.tl_query.specs.Joins.{joined_pairs}

-- the rows that are valid at the moment, where one is given
abbrev pub at_moment : Option ℤ → List (ℕ × plain.Row) → List (ℕ × plain.Row)
at_moment None rows = rows
at_moment (Some moment) rows = rows_valid_at moment rows

-- the rows of a table that stand at the version, and are valid at the moment where one is given,
-- that pass the predicate, in order of id, each as the list of its items
abbrev pub selected : plain.Database → ℕ → List TypedItem → TypedPred → Option ℤ → ℕ
    → List (List Field)
selected db table items pred valid_at version =
    map (λ r. row_fields items r.1)
    (filter (λ r. passes pred r.1) (at_moment valid_at (visible_rows db table version)))

-- the value of the group, where there is one
abbrev pub group_fields : Option Cell → List Field
group_fields None = []
group_fields (Some value) = cell_field value ∷ []

-- a run as a row: its group where it has one, its bounds, its value
abbrev pub run_fields : Run → List Field
run_fields run =
    group_fields run.group ++ moment_field run.from ∷ moment_field run.to ∷ run.value ∷ []

-- the cells of a row, where there is one
abbrev pub cells_of : Option plain.Row → List Cell
cells_of None = []
cells_of (Some row) = row.cells

-- the cells of the row with an id
abbrev pub cells_with : List plain.Row → ℕ → List Cell
cells_with rows id = cells_of (slice_get rows id)

-- a pair as a row: its bounds, the cells of its left row, the cells of its right row
abbrev pub pair_fields : List plain.Row → List plain.Row → Pair → List Field
pair_fields lefts rights pair =
    moment_field pair.from ∷ moment_field pair.to
    ∷ map cell_field (cells_with lefts pair.left ++ cells_with rights pair.right)

-- the rows that answer a query
abbrev pub answer_of : plain.Database → Typed → List (List Field)
answer_of db (typed.Select table items pred valid_at version) =
    selected db table items pred valid_at version
answer_of db (typed.Agg table kind column by pred span) =
    map run_fields (aggregate_runs db table kind column by pred span)
answer_of db (typed.Join left left_pred right right_pred left_on right_on span) =
    map (pair_fields (rows_of db left) (rows_of db right))
    (joined_pairs db left left_pred right right_pred left_on right_on span)
