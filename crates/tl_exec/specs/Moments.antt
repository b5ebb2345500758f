-- Aggregates over valid time.
use Rattle.std.specs.Prelude.{ℕ, ℤ, ◌<◌, ◌≤◌, ◌<ℤ◌, length}
use Rattle.tl_types.specs.Plain as plain
use Rattle.tl_query.specs.declared.typed_queries.AggPlan.{AggPlan}
use Rattle.tl_query.specs.declared.typed_queries.Span.{Span}
use Rattle.tl_query.specs.declared.typed_queries.Typed.TheVariants as typed
use Rattle.tl_query.specs.declared.typed_queries.TypedPred.{TypedPred}
use Rattle.tl_query.specs.TypedFor.{IsTypedFor}
use Rattle.tl_filter.specs.Selecting.{IsTypedPredFor}
use Rattle.tl_app.specs.Scans.{IsValidTimePlanFor}

-- the plan is one for a table of the database whose rows have valid periods, the predicate is one
-- for that table, the version is there, and the range has a moment
pub record IsAskedAt (db : plain.Database) (plan : AggPlan) (pred : TypedPred) (version : ℕ)
    (from to : ℤ) : Type 0 where
  pub table : plan.table < length db.tables
  pub suits : IsValidTimePlanFor db plan
  pub typed : IsTypedPredFor db plan.table pred
  pub known : version ≤ db.version
  pub some : from <ℤ to

-- a query for the runs of the plan over the range, of the rows that pass, suits the database
abbrev pub IsAggFor : plain.Database → AggPlan → TypedPred → Span → Type 0
IsAggFor db plan pred span =
    IsTypedFor db (typed.Agg plan.table plan.kind plan.column plan.by pred span)
