-- Answers do not depend on floors.
use mathlib.Core.Path.{fun_ext}
use Rattle.std.proofs.Common.{◌≡◌, ℕ, ℤ, pos, negsuc, List, map, Option, Some, None, refl, sym, ◌∙◌, ap}
use Rattle.std.specs.List.{filter, flat_map}
use Rattle.tl_types.specs.declared.cells.Cell.{Cell}
use Rattle.tl_types.specs.Plain as plain
use Rattle.tl_types.specs.History.{with_ids, is_visible, visible_rows, rows_valid_at, rows_of, without_floors}
use Rattle.tl_types.proofs.TimeLemmas.{rows_without_floors}
use Rattle.tl_query.specs.declared.ast.AggKind.{AggKind}
use Rattle.tl_query.specs.declared.typed_queries.Span.{Span}
use Rattle.tl_query.specs.declared.typed_queries.Span.TheVariants as span
use Rattle.tl_query.specs.declared.typed_queries.Typed.{Typed}
use Rattle.tl_query.specs.declared.typed_queries.Typed.TheVariants as typed
use Rattle.tl_query.specs.declared.typed_queries.TypedItem.{TypedItem}
use Rattle.tl_query.specs.declared.typed_queries.TypedPred.{TypedPred}
use Rattle.tl_query.specs.Passing.{passes}
use Rattle.tl_query.specs.Fields.{row_fields}
use Rattle.tl_query.specs.Ordered.{values_of, in_order, pair_before}
use Rattle.tl_query.specs.Aggregates.{standing_at, rows_at, passing_at, has_value, group_at, runs_in, group_runs, aggregate_runs}
use Rattle.tl_query.specs.Joins.{pairs_of, joined_pairs}
use Rattle.tl_query.specs.Answers.{at_moment, selected, run_fields, pair_fields, answer_of}

-- the rows of databases that differ in floors alone
same_rows : (db other : plain.Database) → without_floors db ≡ without_floors other → (table : ℕ) → rows_of db table ≡ rows_of other table
same_rows db other e table = sym (rows_without_floors db table) ∙ ap (λ (d : plain.Database). rows_of d table) e ∙ rows_without_floors other table

-- databases with the same rows
module _ (db other : plain.Database) (same : (table : ℕ) → rows_of db table ≡ rows_of other table) where
  visible_same : (table version : ℕ) → visible_rows db table version ≡ visible_rows other table version
  visible_same table version = ap (λ (rows : List plain.Row). filter (λ r. is_visible version r.1) (with_ids rows)) (same table)

  selected_same : (table : ℕ) (items : List TypedItem) (p : TypedPred) (valid_at : Option ℤ) (version : ℕ) → selected db table items p valid_at version ≡ selected other table items p valid_at version
  selected_same table items p valid_at version = ap (λ rows. map (λ r. row_fields items r.1) (filter (λ r. passes p r.1) (at_moment valid_at rows))) (visible_same table version)

  standing_same : (table : ℕ) (moment : ℤ) → standing_at db table moment ≡ standing_at other table moment
  standing_same table (pos version) = visible_same table version
  standing_same table (negsuc n) = refl

  rows_at_same : (table : ℕ) (s : Span) (moment : ℤ) → rows_at db table s moment ≡ rows_at other table s moment
  rows_at_same table (span.System from to) moment = standing_same table moment
  rows_at_same table (span.Valid version from to) moment = ap (rows_valid_at moment) (visible_same table version)

  passing_same : (table : ℕ) (p : TypedPred) (s : Span) → passing_at db table p s ≡ passing_at other table p s
  passing_same table p s = fun_ext (λ moment. ap (λ rows. filter (passes p) (map (λ r. r.1) rows)) (rows_at_same table s moment))

  group_same : (table : ℕ) (p : TypedPred) (s : Span) (by : ℕ) (value : Cell) → group_at db table p s by value ≡ group_at other table p s by value
  group_same table p s by value = ap (λ (f : ℤ → List plain.Row). λ moment. filter (has_value by value) (f moment)) (passing_same table p s)

  runs_same : (table : ℕ) (kind : AggKind) (column by : Option ℕ) (p : TypedPred) (s : Span) → aggregate_runs db table kind column by p s ≡ aggregate_runs other table kind column by p s
  unfolding aggregate_runs
  runs_same table kind column None p s = ap (runs_in kind column s) (passing_same table p s)
  runs_same table kind column (Some by) p s =
      ap (λ g. flat_map g (values_of by (rows_of db table))) (fun_ext (λ value. ap (λ rows. group_runs kind column s rows value) (group_same table p s by value)))
      ∙ ap (λ rows. flat_map (λ value. group_runs kind column s (group_at other table p s by value) value) (values_of by rows)) (same table)

  pairs_same : (left right : ℕ) (p q : TypedPred) (left_on right_on : ℕ) (s : Span) → joined_pairs db left p right q left_on right_on s ≡ joined_pairs other left p right q left_on right_on s
  unfolding joined_pairs
  pairs_same left right p q left_on right_on s =
      ap (λ rows. in_order pair_before (pairs_of p q left_on right_on s rows (rows_of db right))) (same left)
      ∙ ap (λ rows. in_order pair_before (pairs_of p q left_on right_on s (rows_of other left) rows)) (same right)

  answer_same : (q : Typed) → answer_of db q ≡ answer_of other q
  answer_same (typed.Select table items p valid_at version) = selected_same table items p valid_at version
  answer_same (typed.Agg table kind column by p s) = ap (map run_fields) (runs_same table kind column by p s)
  answer_same (typed.Join left p right q left_on right_on s) =
      ap (λ rows. map (pair_fields rows (rows_of db right)) (joined_pairs db left p right q left_on right_on s)) (same left)
      ∙ ap (λ rows. map (pair_fields (rows_of other left) rows) (joined_pairs db left p right q left_on right_on s)) (same right)
      ∙ ap (map (pair_fields (rows_of other left) (rows_of other right))) (pairs_same left right p q left_on right_on s)

-- one answer
pub one_answer : (db other : plain.Database) (q : Typed) → without_floors db ≡ without_floors other → answer_of db q ≡ answer_of other q
one_answer db other q e = answer_same db other (same_rows db other e) q
