-- Kept rows that are those that pass a predicate.
use Rattle.std.proofs.Common.{◌≡◌, ℕ, ◌+◌, ℤ, pos, negsuc, Bool, true, false, ◌&&◌, cond, List, [], ◌∷◌, map, Option, Some, None, refl, ap, ◌∙◌}
use mathlib.Core.Path.{fun_ext}
use Rattle.std.specs.List.{filter, flat_map, enumerate_from}
use Rattle.tl_types.specs.Plain as plain
use Rattle.tl_types.specs.History.{is_visible, rows_of}
use Rattle.tl_query.specs.declared.ast.AggKind.{AggKind}
use Rattle.tl_query.specs.declared.typed_queries.AggPlan.{AggPlan}
use Rattle.tl_query.specs.declared.typed_queries.TypedPred.{TypedPred}
use Rattle.tl_query.specs.declared.typed_queries.Span.TheVariants as span
use Rattle.tl_query.specs.Aggregates.{passing_at, has_value, runs_in, group_runs, aggregate_runs}
use Rattle.tl_query.specs.Ordered.{values_of}
use Rattle.tl_query.specs.Passing.{passes}
use Rattle.tl_agg.specs.Kept.{both, picked, kept_at}
use Rattle.tl_agg.specs.Runs.{runs_by, system_runs}

picked_passing : (stands test : plain.Row → Bool) (n : ℕ) (rows : List plain.Row) → picked (both (map stands rows) (map test rows)) rows ≡ filter test (map (λ (r : ℕ × plain.Row). r.1) (filter (λ (r : ℕ × plain.Row). stands r.1) (enumerate_from n rows)))
picked_passing stands test n [] = refl
picked_passing stands test n (r ∷ rows) = by_tests (stands r) (test r) refl (picked_passing stands test (n + 1) rows) where
  by_tests : (s t : Bool) → test r ≡ t → picked (both (map stands rows) (map test rows)) rows ≡ filter test (map (λ (r : ℕ × plain.Row). r.1) (filter (λ (r : ℕ × plain.Row). stands r.1) (enumerate_from (n + 1) rows)))
      → cond (s && t) (r ∷ picked (both (map stands rows) (map test rows)) rows) (picked (both (map stands rows) (map test rows)) rows)
      ≡ filter test (map (λ (r : ℕ × plain.Row). r.1) (cond s ((n, r) ∷ filter (λ (r : ℕ × plain.Row). stands r.1) (enumerate_from (n + 1) rows)) (filter (λ (r : ℕ × plain.Row). stands r.1) (enumerate_from (n + 1) rows))))
  by_tests true true e h = rw e (ap (λ rs. r ∷ rs) h)
  by_tests true false e h = rw e h
  by_tests false true e h = h
  by_tests false false e h = h

kept_passing : (db : plain.Database) (table : ℕ) (pred : TypedPred) (keep : List Bool) (from to : ℕ) → keep ≡ map (passes pred) (rows_of db table) → (moment : ℤ) → kept_at (rows_of db table) keep moment ≡ passing_at db table pred (span.System from to) moment
kept_passing db table pred keep from to is (pos v) = ap (λ k. picked (both (map (is_visible v) (rows_of db table)) k) (rows_of db table)) is ∙ picked_passing (is_visible v) (passes pred) 0 (rows_of db table)
kept_passing db table pred keep from to is (negsuc n) = refl

by_kept : (db : plain.Database) (table : ℕ) (kind : AggKind) (column by : Option ℕ) (pred : TypedPred) (keep : List Bool) (from to : ℕ) → keep ≡ map (passes pred) (rows_of db table)
    → runs_by kind column by (rows_of db table) keep from to ≡ aggregate_runs db table kind column by pred (span.System from to)
unfolding aggregate_runs
by_kept db table kind column None pred keep from to is = ap (runs_in kind column (span.System from to)) (fun_ext (kept_passing db table pred keep from to is))
by_kept db table kind column (Some by) pred keep from to is =
    ap (λ (rows : ℤ → List plain.Row). flat_map (λ value. group_runs kind column (span.System from to) (λ moment. filter (has_value by value) (rows moment)) value) (values_of by (rows_of db table))) (fun_ext (kept_passing db table pred keep from to is))

pub kept_pass : (db : plain.Database) (plan : AggPlan) (pred : TypedPred) (keep : List Bool) (from to : ℕ) → keep ≡ map (passes pred) (rows_of db plan.table)
    → system_runs plan (rows_of db plan.table) keep from to ≡ aggregate_runs db plan.table plan.kind plan.column plan.by pred (span.System from to)
kept_pass db plan pred keep from to is = by_kept db plan.table plan.kind plan.column plan.by pred keep from to is
