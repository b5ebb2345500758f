-- Worked answers of each kind, over small histories.
use Rattle.std.proofs.lemmas.Int.{ints}
use Rattle.std.proofs.Common.{◌≡◌, ◌≤ℤ◌, ◌<ℤ◌, ◌∙◌, ap, map, arith, ℕ, ℤ, true, false, pos, Bool, List, [], ◌∷◌, Option, Some, None, refl, codes}
use Rattle.tl_types.specs.declared.cells.Cell.{Cell}
use Rattle.tl_types.specs.declared.cells.Cell.TheVariants as cell
use Rattle.tl_types.specs.declared.cells.Cmp.TheVariants as cmp
use Rattle.tl_types.specs.declared.cells.ColumnKind.TheVariants.{IntKind, TextKind}
use Rattle.tl_types.specs.declared.schemas.Column.{Column}
use Rattle.tl_types.specs.declared.commits.Commit.{Commit}
use Rattle.tl_types.specs.declared.commits.Body.TheVariants as body
use Rattle.tl_types.specs.declared.answers.Field.{Field}
use Rattle.tl_types.specs.declared.answers.Field.TheVariants as field
use Rattle.tl_types.specs.Plain as plain
use Rattle.tl_types.specs.History.{database_of}
use Rattle.tl_query.specs.declared.ast.AggKind.{AggKind}
use Rattle.tl_query.specs.declared.ast.AggKind.TheVariants as kind
use Rattle.tl_query.specs.declared.typed_queries.Span.TheVariants as span
use Rattle.tl_query.specs.declared.typed_queries.Typed.{Typed}
use Rattle.tl_query.specs.declared.typed_queries.Typed.TheVariants as typed
use Rattle.tl_query.specs.declared.typed_queries.TypedItem.TheVariants as item
use Rattle.tl_query.specs.declared.typed_queries.TypedPred.{TypedPred}
use Rattle.tl_types.specs.Runs.{runs_over, runs_of, add_stretch, stretch_of}
use Rattle.tl_query.specs.Aggregates.{aggregate_of, passing_at, aggregate_runs}
use Rattle.tl_query.specs.Joins.{joined_pairs}
use Rattle.tl_query.specs.TypedFor.{is_typed_for}
use Rattle.tl_query.specs.Answers.{answer_of, run_fields}
use Rattle.tl_types.proofs.RunLemmas.{runs_more, runs_none}
use Rattle.tl_plain.proofs.TimeLemmas.{le_test, not_le_test, lt_test}

abbrev int_column : List ℕ → Column
int_column name = record { name = name; kind = IntKind }

abbrev create : List ℕ → List Column → Bool → Commit
create name columns valid = record { author = 0; body = body.Create (record { name = name; columns = columns; key = 0; valid = valid }) }

abbrev change : ℕ → List ℕ → List plain.Opened → Commit
change table closes opens = record { author = 0; body = body.Change (record { table = table; closes = closes; opens = opens }) }

abbrev int : ℕ → Cell
int n = cell.Int (pos n)

abbrev opened : List Cell → plain.Opened
opened cells = record { cells = cells; period = None }

abbrev during : ℤ → ℤ → List Cell → plain.Opened
during from to cells = record { cells = cells; period = Some (record { from = from; to = to }) }

abbrev num : ℕ → Field
num n = field.Number (pos n)

abbrev any_row : TypedPred
any_row = record { any = [] }

-- employees, of whom one gets more pay, and the other leaves and comes back
abbrev emp : ℕ → List ℕ → ℕ → plain.Opened
emp id dept pay = opened (int id ∷ cell.Text dept ∷ int pay ∷ [])

abbrev employees : plain.Database
employees = database_of (
    create (codes "emp") (int_column (codes "id") ∷ record { name = codes "dept"; kind = TextKind } ∷ int_column (codes "pay") ∷ []) false
    ∷ change 0 [] (emp 1 (codes "ops") 100 ∷ emp 2 (codes "dev") 50 ∷ [])
    ∷ change 0 (0 ∷ []) (emp 1 (codes "ops") 150 ∷ [])
    ∷ change 0 (1 ∷ []) []
    ∷ change 0 [] (emp 2 (codes "dev") 50 ∷ [])
    ∷ [])

abbrev over_versions : AggKind → Option ℕ → Option ℕ → TypedPred → ℕ → ℕ → Typed
over_versions kind column by pred from to = typed.Agg 0 kind column by pred (span.System from to)

count_of_all : answer_of employees (over_versions kind.Count None None any_row 1 6) ≡ (num 1 ∷ num 2 ∷ num 0 ∷ []) ∷ (num 2 ∷ num 4 ∷ num 2 ∷ []) ∷ (num 4 ∷ num 5 ∷ num 1 ∷ []) ∷ (num 5 ∷ num 6 ∷ num 2 ∷ []) ∷ []
unfolding runs_over aggregate_runs
count_of_all = refl

sum_of_pay : answer_of employees (over_versions kind.Sum (Some 2) None any_row 1 6) ≡ (num 1 ∷ num 2 ∷ field.Empty ∷ []) ∷ (num 2 ∷ num 3 ∷ num 150 ∷ []) ∷ (num 3 ∷ num 4 ∷ num 200 ∷ []) ∷ (num 4 ∷ num 5 ∷ num 150 ∷ []) ∷ (num 5 ∷ num 6 ∷ num 200 ∷ []) ∷ []
unfolding runs_over aggregate_runs
sum_of_pay = refl

abbrev hundred_or_more : TypedPred
hundred_or_more = record { any = (record { column = 2; cmp = cmp.Ge; value = int 100 } ∷ []) ∷ [] }

sum_of_high_pay : answer_of employees (over_versions kind.Sum (Some 2) None hundred_or_more 1 6) ≡ (num 1 ∷ num 2 ∷ field.Empty ∷ []) ∷ (num 2 ∷ num 3 ∷ num 100 ∷ []) ∷ (num 3 ∷ num 6 ∷ num 150 ∷ []) ∷ []
unfolding runs_over aggregate_runs
sum_of_high_pay = refl

average_by_department : answer_of employees (over_versions kind.Avg (Some 2) (Some 1) any_row 2 6) ≡ (field.Text (codes "dev") ∷ num 2 ∷ num 4 ∷ field.Ratio (pos 50) 1 ∷ []) ∷ (field.Text (codes "dev") ∷ num 5 ∷ num 6 ∷ field.Ratio (pos 50) 1 ∷ []) ∷ (field.Text (codes "ops") ∷ num 2 ∷ num 3 ∷ field.Ratio (pos 100) 1 ∷ []) ∷ (field.Text (codes "ops") ∷ num 3 ∷ num 6 ∷ field.Ratio (pos 150) 1 ∷ []) ∷ []
unfolding runs_over aggregate_runs
average_by_department = refl

abbrev with_themselves : Typed
with_themselves = typed.Join 0 any_row 0 any_row 0 0 (span.System 2 6)

with_themselves_over_versions : answer_of employees with_themselves ≡ (num 2 ∷ num 3 ∷ num 1 ∷ field.Text (codes "ops") ∷ num 100 ∷ num 1 ∷ field.Text (codes "ops") ∷ num 100 ∷ []) ∷ (num 2 ∷ num 4 ∷ num 2 ∷ field.Text (codes "dev") ∷ num 50 ∷ num 2 ∷ field.Text (codes "dev") ∷ num 50 ∷ []) ∷ (num 3 ∷ num 6 ∷ num 1 ∷ field.Text (codes "ops") ∷ num 150 ∷ num 1 ∷ field.Text (codes "ops") ∷ num 150 ∷ []) ∷ (num 5 ∷ num 6 ∷ num 2 ∷ field.Text (codes "dev") ∷ num 50 ∷ num 2 ∷ field.Text (codes "dev") ∷ num 50 ∷ []) ∷ []
unfolding joined_pairs
with_themselves_over_versions = refl

abbrev dev_alone : TypedPred
dev_alone = record { any = (record { column = 1; cmp = cmp.Eq; value = cell.Text (codes "dev") } ∷ []) ∷ [] }

select_of_a_department : answer_of employees (typed.Select 0 (item.Column 0 ∷ []) dev_alone None 5) ≡ (num 2 ∷ []) ∷ []
select_of_a_department = refl

-- what suits the employees and what does not
all_suit : is_typed_for employees (over_versions kind.Avg (Some 2) (Some 1) hundred_or_more 2 6) ≡ true
all_suit = refl

join_suits : is_typed_for employees with_themselves ≡ true
join_suits = refl

order_of_texts : is_typed_for employees (over_versions kind.Count None None (record { any = (record { column = 1; cmp = cmp.Lt; value = cell.Text (codes "ops") } ∷ []) ∷ [] }) 0 6) ≡ false
order_of_texts = refl

range_past_the_end : is_typed_for employees (over_versions kind.Count None None any_row 0 7) ≡ false
range_past_the_end = refl

sum_of_texts : is_typed_for employees (over_versions kind.Sum (Some 1) None any_row 0 6) ≡ false
sum_of_texts = refl

count_of_a_column : is_typed_for employees (over_versions kind.Count (Some 0) None any_row 0 6) ≡ false
count_of_a_column = refl

no_valid_time : is_typed_for employees (typed.Agg 0 kind.Count None None any_row (span.Valid 5 (pos 0) (pos 9))) ≡ false
no_valid_time = refl

no_such_table : is_typed_for employees (typed.Select 1 [] any_row None 5) ≡ false
no_such_table = refl

later_version : is_typed_for employees (typed.Select 0 [] any_row None 6) ≡ false
later_version = refl

-- the least of several equal numbers, of which some go
abbrev measures : plain.Database
measures = database_of (
    create (codes "m") (int_column (codes "k") ∷ int_column (codes "x") ∷ []) false
    ∷ change 0 [] (opened (int 1 ∷ int 7 ∷ []) ∷ opened (int 2 ∷ int 7 ∷ []) ∷ opened (int 3 ∷ int 7 ∷ []) ∷ opened (int 4 ∷ int 9 ∷ []) ∷ [])
    ∷ change 0 (1 ∷ []) []
    ∷ change 0 (0 ∷ 2 ∷ []) []
    ∷ [])

least_of_equals : answer_of measures (over_versions kind.Min (Some 1) None any_row 2 5) ≡ (num 2 ∷ num 4 ∷ num 7 ∷ []) ∷ (num 4 ∷ num 5 ∷ num 9 ∷ []) ∷ []
unfolding runs_over aggregate_runs
least_of_equals = refl

-- one period, and two within it put later
abbrev periods : plain.Database
periods = database_of (
    create (codes "q") (int_column (codes "k") ∷ int_column (codes "x") ∷ []) true
    ∷ change 0 [] (during (pos 0) (pos 100) (int 1 ∷ int 5 ∷ []) ∷ [])
    ∷ change 0 (0 ∷ []) (during (pos 0) (pos 10) (int 1 ∷ int 5 ∷ []) ∷ during (pos 20) (pos 50) (int 1 ∷ int 5 ∷ []) ∷ during (pos 60) (pos 100) (int 1 ∷ int 5 ∷ []) ∷ during (pos 10) (pos 20) (int 1 ∷ int 6 ∷ []) ∷ during (pos 50) (pos 60) (int 1 ∷ int 7 ∷ []) ∷ [])
    ∷ [])

sum_over_valid_time : answer_of periods (typed.Agg 0 kind.Sum (Some 1) None any_row (span.Valid 3 (pos 0) (pos 100))) ≡ (num 0 ∷ num 10 ∷ num 5 ∷ []) ∷ (num 10 ∷ num 20 ∷ num 6 ∷ []) ∷ (num 20 ∷ num 50 ∷ num 5 ∷ []) ∷ (num 50 ∷ num 60 ∷ num 7 ∷ []) ∷ (num 60 ∷ num 100 ∷ num 5 ∷ []) ∷ []
unfolding runs_over aggregate_runs
sum_over_valid_time = refl

valid_at_ten : answer_of periods (typed.Select 0 (item.Column 1 ∷ []) any_row (Some (pos 10)) 3) ≡ (num 6 ∷ []) ∷ []
valid_at_ten = refl

before_the_second_put : answer_of periods (typed.Select 0 (item.Column 1 ∷ item.ValidTo ∷ []) any_row None 2) ≡ (num 5 ∷ num 100 ∷ []) ∷ []
before_the_second_put = refl

-- adjacent periods have no moment in common
neighbours_over_valid_time : answer_of periods (typed.Join 0 (record { any = (record { column = 1; cmp = cmp.Eq; value = int 6 } ∷ []) ∷ [] }) 0 (record { any = (record { column = 1; cmp = cmp.Eq; value = int 5 } ∷ []) ∷ [] }) 0 0 (span.Valid 3 (pos 0) (pos 100))) ≡ []
unfolding joined_pairs
neighbours_over_valid_time = refl

-- a period without end, to its first moments
abbrev endless : plain.Database
endless = database_of (create (codes "c") (int_column (codes "k") ∷ []) true ∷ change 0 [] (during (pos 5) plain.forever (int 1 ∷ []) ∷ []) ∷ [])

endless_at_first : answer_of endless (typed.Agg 0 kind.Count None None any_row (span.Valid 2 (pos 0) (pos 9))) ≡ (num 0 ∷ num 5 ∷ num 0 ∷ []) ∷ (num 5 ∷ num 9 ∷ num 1 ∷ []) ∷ []
unfolding runs_over aggregate_runs
endless_at_first = refl

-- the same up to the end of all time, stretch by stretch
abbrev endless_count : ℤ → Field
endless_count moment = aggregate_of kind.Count None (passing_at endless 0 any_row (span.Valid 2 (pos 0) plain.forever) moment)

none_before : (moment : ℤ) → moment <ℤ pos 5 → endless_count moment ≡ num 0
none_before moment h = rw (not_le_test (pos 5) moment h) refl

one_after : (moment : ℤ) → pos 5 ≤ℤ moment → moment <ℤ plain.forever → endless_count moment ≡ num 1
one_after moment h l = rw (le_test (pos 5) moment h, lt_test moment plain.forever l) refl

endless_runs : runs_of endless_count (pos 0) plain.forever ≡ stretch_of (pos 0) (pos 5) (num 0) ∷ stretch_of (pos 5) plain.forever (num 1) ∷ []
endless_runs =
    let first = runs_more endless_count (pos 0) (pos 0) (pos 5) (omega (arith, ints)) (omega (arith, ints)) (λ moment a b. none_before moment b) in
    let start = runs_none endless_count (pos 0) (pos 0) (omega (arith, ints)) in
    let second = runs_more endless_count (pos 0) (pos 5) plain.forever (omega (arith, ints)) (omega (arith, ints)) (λ moment a b. one_after moment a b) in
    second ∙ ap (λ runs. add_stretch runs (stretch_of (pos 5) plain.forever (num 1))) (first ∙ ap (λ runs. add_stretch runs (stretch_of (pos 0) (pos 5) (num 0))) start)

endless_to_the_end : answer_of endless (typed.Agg 0 kind.Count None None any_row (span.Valid 2 (pos 0) plain.forever)) ≡ (num 0 ∷ num 5 ∷ num 0 ∷ []) ∷ (num 5 ∷ field.Forever ∷ num 1 ∷ []) ∷ []
unfolding aggregate_runs
endless_to_the_end = ap (map run_fields) endless_runs

endless_pair : answer_of endless (typed.Join 0 any_row 0 any_row 0 0 (span.Valid 2 (pos 0) plain.forever)) ≡ (num 5 ∷ field.Forever ∷ num 1 ∷ num 1 ∷ []) ∷ []
unfolding joined_pairs
endless_pair = refl

-- two tables, with one row each for a while
abbrev sides : plain.Database
sides = database_of (
    create (codes "l") (int_column (codes "k") ∷ int_column (codes "a") ∷ []) false
    ∷ create (codes "r") (int_column (codes "k") ∷ int_column (codes "b") ∷ []) false
    ∷ change 0 [] (opened (int 1 ∷ int 10 ∷ []) ∷ [])
    ∷ change 1 [] (opened (int 1 ∷ int 20 ∷ []) ∷ [])
    ∷ change 0 (0 ∷ []) []
    ∷ [])

one_version_together : answer_of sides (typed.Join 0 any_row 1 any_row 0 0 (span.System 0 6)) ≡ (num 4 ∷ num 5 ∷ num 1 ∷ num 10 ∷ num 1 ∷ num 20 ∷ []) ∷ []
unfolding joined_pairs
one_version_together = refl
