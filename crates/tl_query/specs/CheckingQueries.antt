-- The check of a query: the faults at all of its places, the first of them, and the query by
-- numbers where there is none.
use Rattle.std.specs.Prelude.{ℕ, ◌+◌, ◌≡◌, nat_abs, Bool, false, not, ◌||◌, nat_lt, int_lt, max, List, [], ◌∷◌, ◌++◌, map, flat_map, Option, Some, None, is_some, option_map, option_and_then, Result, Ok, Err, IfSome}
use Rattle.std.specs.List.{AllByRecursion, Contains}
use Rattle.tl_types.specs.declared.cells.ColumnKind.{ColumnKind}
use Rattle.tl_types.specs.declared.cells.ColumnKind.TheVariants as kind
use Rattle.tl_types.specs.History.{is_of_kind}
use Rattle.tl_types.specs.Plain as plain
use Rattle.tl_query.specs.declared.ast.Name.{Name}
use Rattle.tl_query.specs.declared.ast.Stamp.{Stamp}
use Rattle.tl_query.specs.declared.ast.Test.{Test}
use Rattle.tl_query.specs.declared.ast.Pred.{Pred}
use Rattle.tl_query.specs.declared.ast.ValidPoint.{ValidPoint}
use Rattle.tl_query.specs.declared.ast.SelectForm.{SelectForm}
use Rattle.tl_query.specs.declared.ast.AggForm.{AggForm}
use Rattle.tl_query.specs.declared.ast.JoinForm.{JoinForm}
use Rattle.tl_query.specs.declared.ast.Over.{Over}
use Rattle.tl_query.specs.declared.ast.Over.TheVariants as over
use Rattle.tl_query.specs.declared.ast.Query.{Query}
use Rattle.tl_query.specs.declared.ast.Query.TheVariants as query
use Rattle.tl_query.specs.declared.typed_queries.Span.{Span}
use Rattle.tl_query.specs.declared.typed_queries.Span.TheVariants as span
use Rattle.tl_query.specs.declared.typed_queries.TypedTest.{TypedTest}
use Rattle.tl_query.specs.declared.typed_queries.TypedPred.{TypedPred}
use Rattle.tl_query.specs.declared.typed_queries.Typed.{Typed}
use Rattle.tl_query.specs.declared.typed_queries.Typed.TheVariants as typed
use Rattle.tl_query.specs.declared.check_faults.CheckFault.{CheckFault}
use Rattle.tl_query.specs.declared.check_faults.CheckFault.TheVariants as fault
use Rattle.tl_query.specs.Checking.{comes_before, fault_if, first_of, table_named, floor_named, column_of, item_fault, Times, version_fault, forgotten_fault, version_of, or_zero, typed_items_of}
use Rattle.tl_query.specs.TypedFor.{is_ordered, kind_at, same_kinds}

-- TABLES AND COLUMNS

-- the number and the schema of the table that a name means, where it means one
abbrev pub Known : Type 0
Known = Option (ℕ × plain.Schema)

-- the faults of a part of a query that speaks of a table, which has none where the table is not
-- known
abbrev pub where_known : Known → (plain.Schema → List (Option CheckFault))
    → List (Option CheckFault)
where_known None faults = []
where_known (Some t) faults = faults t.1

-- no table has the name
abbrev pub table_fault : Known → Name → Option CheckFault
table_fault None name = Some (fault.UnknownTable name.at)
table_fault (Some t) name = None

-- the table has no column of the name
abbrev pub column_fault : plain.Schema → Name → Option CheckFault
column_fault schema name =
    fault_if (not (is_some (column_of schema name.text))) (fault.UnknownColumn name.at)

-- the kind of the column that a name means
abbrev pub kind_of : plain.Schema → Name → Option ColumnKind
kind_of schema name = option_and_then (kind_at schema) (column_of schema name.text)

-- the kind of the column that a name means, where its table is known
abbrev pub known_kind : Known → Name → Option ColumnKind
known_kind None name = None
known_kind (Some t) name = kind_of t.1 name

-- TESTS

-- an order is asked of texts
abbrev pub order_fault : Option ColumnKind → Test → Option CheckFault
order_fault None test = None
order_fault (Some kind.IntKind) test = None
order_fault (Some kind.TextKind) test = fault_if (is_ordered test.cmp) (fault.WrongType test.cmp_at)

-- the constant is not of its column's kind
abbrev pub constant_fault : Option ColumnKind → Test → Option CheckFault
constant_fault None test = None
constant_fault (Some k) test =
    fault_if (not (is_of_kind k test.value)) (fault.WrongType test.value_at)

-- the faults of a test of a known table: at its column, at its comparison, at its constant
abbrev pub test_faults : plain.Schema → Test → List (Option CheckFault)
test_faults schema test =
    column_fault schema test.column
    ∷ order_fault (kind_of schema test.column) test
    ∷ constant_fault (kind_of schema test.column) test ∷ []

-- the faults of tests that are joined by AND
abbrev pub tests_faults : plain.Schema → List Test → List (Option CheckFault)
tests_faults schema tests = flat_map (test_faults schema) tests

-- the faults of a predicate
abbrev pub pred_faults : plain.Schema → Pred → List (Option CheckFault)
pred_faults schema pred = flat_map (tests_faults schema) pred.any

-- TIMES

-- the table is known, and its rows have no valid period
abbrev pub is_timeless : Known → Bool
is_timeless None = false
is_timeless (Some t) = not t.1.valid

-- valid time is asked for, at VALID AT, and the rows of a known table have none
abbrev pub point_fault : Bool → Option ValidPoint → Option CheckFault
point_fault timeless None = None
point_fault timeless (Some point) = fault_if timeless (fault.NotValidTable point.pos)

-- the version that ends a range is after the one that follows the last commit
abbrev pub end_fault : ℕ → Stamp → Option CheckFault
end_fault now to =
    fault_if (nat_lt (now + 1) (nat_abs to.value)) (fault.VersionAhead to.at (nat_abs to.value) now)

-- no version is in the range
abbrev pub versions_fault : Stamp → Stamp → Option CheckFault
versions_fault from to =
    fault_if (not (nat_lt (nat_abs from.value) (nat_abs to.value))) (fault.EmptyRange from.at)

-- the version that begins a range is before the least one that may be asked
abbrev pub start_fault : ℕ → Stamp → Option CheckFault
start_fault floor from =
    fault_if (nat_lt (nat_abs from.value) floor) (fault.Forgotten from.at floor)

-- no valid time is in the range
abbrev pub moments_fault : Stamp → Stamp → Option CheckFault
moments_fault from to = fault_if (not (int_lt from.value to.value)) (fault.EmptyRange from.at)

-- the faults of a range of time, where the rows of a known table have no valid period or all have
abbrev pub over_faults : Times → Bool → Over → List (Option CheckFault)
over_faults times timeless over.SystemAll = []
over_faults times timeless (over.System from to) =
    versions_fault from to ∷ end_fault times.now to ∷ start_fault times.floor from ∷ []
over_faults times timeless (over.Valid pos from to as_of) =
    fault_if timeless (fault.NotValidTable pos) ∷ moments_fault from to
    ∷ version_fault times as_of ∷ forgotten_fault times as_of ∷ []

-- THE FAULTS OF A QUERY, PLACE BY PLACE

-- of a SELECT: at its items, its table, its predicate, VALID AT and its version
abbrev pub select_faults : Times → Known → SelectForm → List (Option CheckFault)
select_faults times table form =
    where_known table (λ s. map (item_fault s) form.items)
    ++ (table_fault table form.table ∷ [])
    ++ where_known table (λ s. pred_faults s form.pred)
    ++ (point_fault (is_timeless table) form.valid_at ∷ version_fault times form.as_of
    ∷ forgotten_fault times form.as_of ∷ [])

-- the column is one of texts, where numbers are wanted
abbrev pub number_fault : Option ColumnKind → Name → Option CheckFault
number_fault None name = None
number_fault (Some kind.IntKind) name = None
number_fault (Some kind.TextKind) name = Some (fault.WrongType name.at)

-- at the column that an aggregate works on
abbrev pub measure_faults : plain.Schema → Option Name → List (Option CheckFault)
measure_faults schema None = []
measure_faults schema (Some name) =
    column_fault schema name ∷ number_fault (kind_of schema name) name ∷ []

-- at the column after BY
abbrev pub by_faults : plain.Schema → Option Name → List (Option CheckFault)
by_faults schema None = []
by_faults schema (Some name) = column_fault schema name ∷ []

-- of an aggregate: at its column, its table, its predicate, BY and its range
abbrev pub agg_faults : Times → Known → AggForm → List (Option CheckFault)
agg_faults times table form =
    where_known table (λ s. measure_faults s form.column)
    ++ (table_fault table form.table ∷ [])
    ++ where_known table (λ s. pred_faults s form.pred)
    ++ where_known table (λ s. by_faults s form.by)
    ++ over_faults times (is_timeless table) form.over

-- the columns after ON are both known and of two kinds
abbrev pub kinds_fault : Option ColumnKind → Option ColumnKind → ℕ → Option CheckFault
kinds_fault None k at = None
kinds_fault (Some j) None at = None
kinds_fault (Some j) (Some k) at =
    fault_if (not (same_kinds (Some j) (Some k))) (fault.WrongType at)

-- at the columns after ON
abbrev pub on_faults : Known → Known → JoinForm → List (Option CheckFault)
on_faults left right form =
    where_known left (λ s. column_fault s form.left_on ∷ [])
    ++ where_known right (λ s. column_fault s form.right_on ∷ [])
    ++ (kinds_fault (known_kind left form.left_on) (known_kind right form.right_on) form.right_on.at
    ∷ [])

-- of a join: at its tables and their predicates, at the columns after ON and its range
abbrev pub join_faults : Times → Known → Known → JoinForm → List (Option CheckFault)
join_faults times left right form =
    (table_fault left form.left ∷ [])
    ++ where_known left (λ s. pred_faults s form.left_pred)
    ++ (table_fault right form.right ∷ [])
    ++ where_known right (λ s. pred_faults s form.right_pred)
    ++ on_faults left right form
    ++ over_faults times (is_timeless left || is_timeless right) form.over

-- the greatest floor of the known tables of a query: the least version that may be asked of it
abbrev pub query_floor : plain.Database → Query → ℕ
query_floor db (query.Select form) = floor_named db form.table
query_floor db (query.Agg form) = floor_named db form.table
query_floor db (query.Join form) = max (floor_named db form.left) (floor_named db form.right)

-- what is known of versions where a query is checked at so many commits
abbrev pub times_for : ℕ → plain.Database → Query → Times
times_for now db query =
    record { now = now; stamps = db.stamps; floor = query_floor db query }

-- the faults at all places of a query, where this is known of versions
abbrev pub faults_at : Times → plain.Database → Query → List (Option CheckFault)
faults_at times db (query.Select form) = select_faults times (table_named db form.table) form
faults_at times db (query.Agg form) = agg_faults times (table_named db form.table) form
faults_at times db (query.Join form) =
    join_faults times (table_named db form.left) (table_named db form.right) form

-- the faults at all places of a query at so many commits
abbrev pub faults_of : ℕ → plain.Database → Query → List (Option CheckFault)
faults_of now db query = faults_at (times_for now db query) db query

-- where there is a fault, it does not come before this one
abbrev pub IsNotBefore : CheckFault → Option CheckFault → Type 0
IsNotBefore e f = IfSome f (λ other. comes_before other e ≡ false)

-- it is one of the faults, and no other comes before it
pub record IsFirst (e : CheckFault) (faults : List (Option CheckFault)) : Type 0 where
  pub among : Contains faults (Some e)
  pub first : AllByRecursion (IsNotBefore e) faults

-- there is no fault at any place
abbrev pub IsFaultless : List (Option CheckFault) → Type 0
IsFaultless faults = AllByRecursion (λ f. f ≡ None) faults

-- QUERIES BY NUMBERS

-- the place of the column that a name means
abbrev pub column_place : plain.Schema → Name → ℕ
column_place schema name = or_zero (column_of schema name.text)

-- a test, with its column by its place
abbrev pub typed_test_of : plain.Schema → Test → TypedTest
typed_test_of schema test =
    record { column = column_place schema test.column; cmp = test.cmp; value = test.value }

-- a predicate, with its columns by their places
abbrev pub typed_pred_of : plain.Schema → Pred → TypedPred
typed_pred_of schema pred = record { any = map (map (typed_test_of schema)) pred.any }

-- a range of time: all versions are those from the least one that may be asked up to the last one,
-- and valid time is that of a version
abbrev pub span_of : Times → Over → Span
span_of times over.SystemAll = span.System times.floor (times.now + 1)
span_of times (over.System from to) = span.System (nat_abs from.value) (nat_abs to.value)
span_of times (over.Valid pos from to as_of) =
    span.Valid (version_of times as_of) from.value to.value

-- a SELECT over a table
abbrev pub select_by_numbers : Times → ℕ × plain.Schema → SelectForm → Typed
select_by_numbers times table form =
    typed.Select table.0 (typed_items_of table.1 form) (typed_pred_of table.1 form.pred)
    (option_map (λ p. p.value) form.valid_at) (version_of times form.as_of)

-- an aggregate over a table
abbrev pub agg_by_numbers : Times → ℕ × plain.Schema → AggForm → Typed
agg_by_numbers times table form =
    typed.Agg table.0 form.kind (option_map (column_place table.1) form.column)
    (option_map (column_place table.1) form.by) (typed_pred_of table.1 form.pred)
    (span_of times form.over)

-- a join of two tables
abbrev pub join_by_numbers : Times → ℕ × plain.Schema → ℕ × plain.Schema → JoinForm → Typed
join_by_numbers times left right form =
    typed.Join left.0 (typed_pred_of left.1 form.left_pred) right.0
    (typed_pred_of right.1 form.right_pred) (column_place left.1 form.left_on)
    (column_place right.1 form.right_on) (span_of times form.over)

-- THE CHECK

-- the first fault, or the query by numbers; a name without a table has a fault
abbrev pub fault_or : Option CheckFault → Option Typed → Name → Result Typed CheckFault
fault_or (Some f) typed name = Err f
fault_or None (Some typed) name = Ok typed
fault_or None None name = Err (fault.UnknownTable name.at)

-- a SELECT over the table that its name means if it means one
abbrev pub select_checked : Times → Known → SelectForm → Result Typed CheckFault
select_checked times table form =
    fault_or (first_of (select_faults times table form))
    (option_map (λ t. select_by_numbers times t form) table) form.table

-- an aggregate
abbrev pub agg_checked : Times → Known → AggForm → Result Typed CheckFault
agg_checked times table form =
    fault_or (first_of (agg_faults times table form))
    (option_map (λ t. agg_by_numbers times t form) table) form.table

-- a join
abbrev pub join_checked : Times → Known → Known → JoinForm → Result Typed CheckFault
join_checked times left right form =
    fault_or (first_of (join_faults times left right form))
    (option_and_then (λ l. option_map (λ r. join_by_numbers times l r form) right) left) form.left

-- a query, where this is known of versions
abbrev pub checked_at : Times → plain.Database → Query → Result Typed CheckFault
checked_at times db (query.Select form) = select_checked times (table_named db form.table) form
checked_at times db (query.Agg form) = agg_checked times (table_named db form.table) form
checked_at times db (query.Join form) =
    join_checked times (table_named db form.left) (table_named db form.right) form

-- The query by numbers at so many commits, over these tables; or, among the faults at all of its
-- places, the one that stands furthest to the left, and of several at one place the one of the
-- least number.
abbrev pub checked : ℕ → plain.Database → Query → Result Typed CheckFault
checked now db query = checked_at (times_for now db query) db query
