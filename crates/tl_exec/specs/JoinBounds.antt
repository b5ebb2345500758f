-- How many steps a join over versions takes at most.
use Rattle.std.specs.Prelude.{ℕ, ◌+◌, ◌-◌, ◌*◌, List, length}
use Rattle.tl_types.specs.declared.commits.Entry.{Entry}
use Rattle.tl_types.specs.declared.runs.Piece.{Piece}
use Rattle.tl_types.specs.Entries.{commits_of}
use Rattle.tl_types.specs.History.{database_of, rows_of, visible_rows}
use Rattle.tl_types.specs.Plain as plain
use Rattle.tl_types.specs.Walks.{events_between}
use Rattle.tl_query.specs.declared.typed_queries.Span.TheVariants as span
use Rattle.tl_query.specs.declared.typed_queries.TypedPred.{TypedPred}
use Rattle.std.specs.List.{filter}
use Rattle.tl_query.specs.Joins.{joined_pairs}
use Rattle.tl_query.specs.Passing.{passes}
use Rattle.tl_store.specs.Reading.{columns_of}
use Rattle.tl_travel.specs.Bounds.{events_after_mark, begun_words, map_digits}
use Rattle.tl_filter.specs.Selecting.{tests_in}
use Rattle.tl_exec.specs.Joining.{JoinOf}

-- the most steps that one side of a join takes for the versions from one on and before another
abbrev pub side_steps : List Entry → ℕ → TypedPred → ℕ → ℕ → ℕ
side_steps entries table pred from to =
    let db = database_of (commits_of entries) in
    let e0 = events_after_mark entries table from in
    let e = length (events_between (rows_of db table) from (to - 1)) in
    let r = length (filter (λ r. passes pred r.1) (visible_rows db table from)) in
    let w = begun_words db table in
    let s = map_digits db table in
    e0 + 5 * e + 4 * r + 5 * w + 4 * s + 2

-- the most steps that both sides take for the pairs that begin in a piece
abbrev pub pairs_steps : JoinOf → Piece → TypedPred → TypedPred → ℕ
pairs_steps join piece left_pred right_pred =
    side_steps join.entries join.plan.left left_pred piece.from piece.to
    + side_steps join.entries join.plan.right right_pred piece.from piece.to

-- the most steps that choosing the rows of a table that pass takes
abbrev pub passing_steps : List Entry → ℕ → TypedPred → ℕ
passing_steps entries table pred =
    tests_in pred * begun_words (database_of (commits_of entries)) table

-- the number of columns of two tables
abbrev pub columns_of_both : plain.Database → ℕ → ℕ → ℕ
columns_of_both db left right = length (columns_of db left) + length (columns_of db right)

-- the most steps that a join over the versions from one on and before another takes
abbrev pub join_steps : List Entry → ℕ → TypedPred → ℕ → TypedPred → ℕ → ℕ → ℕ → ℕ → ℕ
join_steps entries left left_pred right right_pred left_on right_on from to =
    let db = database_of (commits_of entries) in
    let pairs = joined_pairs db left left_pred right right_pred left_on right_on
    (span.System from to) in
    passing_steps entries left left_pred + side_steps entries left left_pred from to
    + (passing_steps entries right right_pred + side_steps entries right right_pred from to)
    + columns_of_both db left right * length pairs
