-- What an aggregate and a join over valid time take, and runs over moments by another name.
use Rattle.std.proofs.Common.{ℤ, Result, Ok, Err, IfOk, ◌≡◌, ℕ, ◌+◌, ◌*◌, ◌≤◌, Bool, true, false, cond, List, [], ◌∷◌, length, Option, Some, None, refl, ap, ◌∙◌, arith}
use Rattle.std.specs.List.{fold}
use Rattle.std.proofs.lemmas.List.{length-append}
use Rattle.std.specs.declared.alloc.AllocError.{AllocError}
use Rattle.tl_types.specs.declared.events.ValidEvent.{ValidEvent}
use Rattle.tl_types.specs.declared.runs.Run.{Run}
use Rattle.tl_query.specs.declared.typed_queries.AggPlan.{AggPlan}
use Rattle.tl_query.specs.declared.typed_queries.Span.TheVariants as span
use Rattle.tl_query.specs.declared.typed_queries.TypedPred.{TypedPred}
use Rattle.tl_app.specs.Parts.{planned_runs}
use Rattle.tl_types.specs.Plain as plain
use Rattle.tl_types.specs.History.{rows_of, visible_rows}
use Rattle.tl_types.specs.Checkpoints.{inserted, comes_before, ends_of, ends_of_rows, valid_events_in}

pub moment_steps : (before kept after p w e e2 s s2 w2 n n2 : ℕ) → kept ≤ before + p * w → after ≤ kept + (3 * e2 + w2 + s2 + 3 * n2) → e2 ≡ e → s2 ≡ s → w2 ≡ w → n2 ≤ n → after ≤ before + (p * w + 4 * e + 2 * w + 2 * s + 4 * n + 2)
moment_steps before kept after p w e e2 s s2 w2 n n2 first second es ss ws few = omega arith

-- runs over moments by another name
pub same_moments : (db : plain.Database) (plan : AggPlan) (pred : TypedPred) (version : ℕ) (result : Result (List Run) AllocError) (first last from to : ℤ) → first ≡ from → last ≡ to
    → IfOk result (λ runs. runs ≡ planned_runs db plan pred (span.Valid version first last)) → IfOk result (λ runs. runs ≡ planned_runs db plan pred (span.Valid version from to))
same_moments db plan pred version (Ok runs) first last from to same also h =
    h ∙ ap (λ m. planned_runs db plan pred (span.Valid version m last)) same ∙ ap (λ m. planned_runs db plan pred (span.Valid version from m)) also
same_moments db plan pred version (Err e) first last from to same also h = tt

-- what the pairs of both sides take
pub pair_steps : (before first second third fourth after p q w v e d s t n m e2 d2 n2 m2 : ℕ) → first ≤ before + p → second ≤ first + q → third ≤ second + (4 * e2 + w + 2 * s)
    → fourth ≤ third + (4 * d2 + v + 2 * t) → after ≤ fourth + (4 * (n2 + m2) + 2) → e2 ≡ e → d2 ≡ d → n2 ≤ n → m2 ≤ m
    → after ≤ before + (p + 4 * e + 2 * w + 2 * s + 4 * n + 2 + (q + 4 * d + 2 * v + 2 * t + 4 * m + 2))
pair_steps before first second third fourth after p q w v e d s t n m e2 d2 n2 m2 one two three four five es ds ns ms = omega arith
