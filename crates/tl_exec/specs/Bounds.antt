-- How many steps an answer takes at most.
use Rattle.std.specs.Prelude.{◌≡◌, ℕ, ℤ, ◌+◌, ◌-◌, ◌*◌, ◌≤◌, List, length}
use Rattle.std.specs.List.{filter}
use Rattle.tl_types.specs.declared.commits.Entry.{Entry}
use Rattle.tl_types.specs.Entries.{commits_of}
use Rattle.tl_types.specs.History.{database_of, rows_of, visible_rows}
use Rattle.tl_types.specs.Plain as plain
use Rattle.tl_types.specs.Walks.{events_between}
use Rattle.tl_query.specs.declared.typed_queries.Span.{Span}
use Rattle.tl_query.specs.declared.typed_queries.Span.TheVariants as span
use Rattle.tl_query.specs.declared.typed_queries.Typed.{Typed}
use Rattle.tl_query.specs.declared.typed_queries.Typed.TheVariants as typed
use Rattle.tl_query.specs.declared.typed_queries.TypedItem.{TypedItem}
use Rattle.tl_query.specs.declared.typed_queries.TypedPred.{TypedPred}
use Rattle.tl_query.specs.Joins.{joined_pairs}
use Rattle.tl_query.specs.Passing.{passes}
use Rattle.tl_travel.specs.Bounds.{events_after_mark, begun_words, map_digits}
use Rattle.tl_filter.specs.Selecting.{tests_in}
use Rattle.tl_exec.specs.JoinBounds.{columns_of_both, join_steps}

-- how many rows of a table are visible at a version and pass
abbrev pub rows_chosen : plain.Database → ℕ → ℕ → TypedPred → ℕ
rows_chosen db table version pred =
    length (filter (λ r. passes pred r.1) (visible_rows db table version))

-- the most steps that a SELECT takes
abbrev pub select_steps : List Entry → ℕ → List TypedItem → TypedPred → ℕ → ℕ
select_steps entries table items pred version =
    let db = database_of (commits_of entries) in
    let p = tests_in pred in
    let w = begun_words db table in
    let e = events_after_mark entries table version in
    let s = map_digits db table in
    let i = length items in
    let r = rows_chosen db table version pred in
    p * w + e + 4 * w + 2 * s + (i + 2) * r + 1

-- how many events a table has of the versions behind one and before another
abbrev pub events_inside : plain.Database → ℕ → ℕ → ℕ → ℕ
events_inside db table from to = length (events_between (rows_of db table) from (to - 1))

-- the most steps that an aggregate over the versions from one on and before another takes
abbrev pub aggregate_steps : List Entry → ℕ → TypedPred → ℕ → ℕ → ℕ
aggregate_steps entries table pred from to =
    let db = database_of (commits_of entries) in
    let p = tests_in pred in
    let w = begun_words db table in
    let e0 = events_after_mark entries table from in
    let e = events_inside db table from to in
    let r = rows_chosen db table from pred in
    let s = map_digits db table in
    p * w + e0 + 5 * e + 3 * r + 5 * w + 4 * s + 2

-- the most steps that an aggregate over valid time at a version takes
abbrev pub valid_steps : List Entry → ℕ → TypedPred → ℕ → ℕ
valid_steps entries table pred version =
    let db = database_of (commits_of entries) in
    let p = tests_in pred in
    let w = begun_words db table in
    let e0 = events_after_mark entries table version in
    let s = map_digits db table in
    let n = 2 * length (visible_rows db table version) in
    p * w + 4 * e0 + 2 * w + 2 * s + 4 * n + 2

-- an aggregate over a range takes no more steps from one count to another than it may, over
-- versions where one worker does it
abbrev pub IsAggWithin : List Entry → ℕ → TypedPred → Span → ℕ → ℕ → ℕ → Type 0
IsAggWithin entries table pred (span.System from to) workers before after =
    workers ≡ 1 → after ≤ before + aggregate_steps entries table pred from to
IsAggWithin entries table pred (span.Valid version from to) workers before after =
    after ≤ before + valid_steps entries table pred version

-- the most steps that finding the pairs of a join over valid time at a version takes
abbrev pub valid_pairs_steps : List Entry → ℕ → TypedPred → ℕ → TypedPred → ℕ → ℕ
valid_pairs_steps entries left left_pred right right_pred version =
    valid_steps entries left left_pred version + valid_steps entries right right_pred version

-- the most steps that a join over a range takes beside finding its pairs: for each pair as many as
-- both tables have columns
abbrev pub pairs_part : List Entry → ℕ → TypedPred → ℕ → TypedPred → ℕ → ℕ → Span → ℕ
pairs_part entries left left_pred right right_pred left_on right_on over =
    let db = database_of (commits_of entries) in
    columns_of_both db left right
    * length (joined_pairs db left left_pred right right_pred left_on right_on over)

-- the most steps that a join over valid time at a version takes
abbrev pub valid_join_steps : List Entry → ℕ → TypedPred → ℕ → TypedPred → ℕ → ℕ → ℕ → ℤ → ℤ → ℕ
valid_join_steps entries left left_pred right right_pred left_on right_on version from to =
    valid_pairs_steps entries left left_pred right right_pred version
    + pairs_part entries left left_pred right right_pred left_on right_on
    (span.Valid version from to)

-- a query takes no more steps from one count to another than its kind may take; an aggregate or a
-- join over versions where one worker does it, the others with any number of workers
abbrev pub IsWithinBound : List Entry → Typed → ℕ → ℕ → ℕ → Type 0
IsWithinBound entries (typed.Select table items pred valid_at version) workers before after =
    after ≤ before + select_steps entries table items pred version
IsWithinBound entries (typed.Agg table kind column by pred over) workers before after =
    IsAggWithin entries table pred over workers before after
IsWithinBound entries
    (typed.Join left left_pred right right_pred left_on right_on (span.System from to)) workers
    before after = workers ≡ 1
    → after ≤ before
    + join_steps entries left left_pred right right_pred left_on right_on from to
IsWithinBound entries
    (typed.Join left left_pred right right_pred left_on right_on (span.Valid version from to))
    workers before after =
    after ≤ before
    + valid_join_steps entries left left_pred right right_pred left_on right_on version from to
