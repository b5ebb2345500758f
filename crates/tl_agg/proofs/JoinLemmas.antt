-- The runs of two pieces put together are those of both.
use Rattle.std.proofs.Common.{◌≡◌, ℕ, ◌≤◌, pos, Bool, List, Option, None, ap, ◌∙◌, arith}
use Rattle.std.proofs.lemmas.Int.{ints}
use Rattle.tl_types.specs.declared.runs.Run.{Run}
use Rattle.tl_types.specs.Plain as plain
use Rattle.tl_types.specs.Runs.{seam}
use Rattle.tl_types.proofs.SeamLemmas.{seam_runs}
use Rattle.tl_query.specs.declared.ast.AggKind.{AggKind}
use Rattle.tl_query.specs.declared.typed_queries.AggPlan.{AggPlan}
use Rattle.tl_query.specs.Aggregates.{aggregate_of}
use Rattle.tl_agg.specs.Kept.{kept_at}
use Rattle.tl_agg.specs.Runs.{runs_by, system_runs}

by_none : (kind : AggKind) (column by : Option ℕ) (rows : List plain.Row) (keep : List Bool) (from middle to : ℕ) → by ≡ None → from ≤ middle → middle ≤ to
    → seam (runs_by kind column by rows keep from middle) (runs_by kind column by rows keep middle to) ≡ runs_by kind column by rows keep from to
by_none kind column by rows keep from middle to is l h =
    rw is (seam_runs (λ moment. aggregate_of kind column (kept_at rows keep moment)) (pos from) (pos middle) (pos to) (omega (arith, ints)) (omega (arith, ints)))

pub pieces_joined : (plan : AggPlan) (rows : List plain.Row) (keep : List Bool) (from middle to : ℕ) (left right runs : List Run) → plan.by ≡ None → from ≤ middle → middle ≤ to
    → left ≡ system_runs plan rows keep from middle → right ≡ system_runs plan rows keep middle to → runs ≡ seam left right → runs ≡ system_runs plan rows keep from to
pieces_joined plan rows keep from middle to left right runs is l h left_is right_is runs_is =
    runs_is ∙ ap (λ x. seam x right) left_is ∙ ap (seam (system_runs plan rows keep from middle)) right_is ∙ by_none plan.kind plan.column plan.by rows keep from middle to is l h
