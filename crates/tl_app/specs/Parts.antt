-- The events of valid time of some rows of a table.
use Rattle.std.specs.Prelude.{◌≡◌, ℕ, ℤ, Bool, List, map}
use Rattle.std.specs.List.{filter}
use Rattle.tl_types.specs.declared.events.ValidEvent.{ValidEvent}
use Rattle.tl_types.specs.declared.runs.Run.{Run}
use Rattle.tl_types.specs.Checkpoints.{valid_events_in}
use Rattle.tl_types.specs.History.{rows_of}
use Rattle.tl_types.specs.Plain as plain
use Rattle.tl_query.specs.Aggregates.{aggregate_runs}
use Rattle.tl_query.specs.declared.typed_queries.AggPlan.{AggPlan}
use Rattle.tl_query.specs.Passing.{passes}
use Rattle.tl_query.specs.declared.typed_queries.Span.{Span}
use Rattle.tl_query.specs.declared.typed_queries.Span.TheVariants as span
use Rattle.tl_query.specs.declared.typed_queries.TypedPred.{TypedPred}
use Rattle.tl_bits.specs.Sets.{is_member}

-- the events of the rows in a set
abbrev pub kept_events : List Bool → List ValidEvent → List ValidEvent
kept_events keep events = filter (λ event. is_member keep event.row) events

-- of the events of valid time at a version those of the rows that a test chooses
abbrev pub part_of : (ℕ → Bool) → List plain.Row → ℕ → List ValidEvent
part_of chooses rows version =
    filter (λ event. chooses event.row) (valid_events_in rows version)

-- the events are those of some of the rows at some version
pub record IsPart (rows : List plain.Row) (events : List ValidEvent) : Type 0 where
  pub version : ℕ
  pub chooses : ℕ → Bool
  pub are : events ≡ part_of chooses rows version

-- the runs that a plan asks for of the rows that pass, over a range
abbrev pub planned_runs : plain.Database → AggPlan → TypedPred → Span → List Run
planned_runs db plan pred span =
    aggregate_runs db plan.table plan.kind plan.column plan.by pred span

-- whatever rows of the plan's table the events are of, at whatever version, the runs are those that
-- the plan asks for of these rows, over a range of valid time
abbrev pub ArePlanned : plain.Database → AggPlan → List ValidEvent → ℤ → ℤ → List Run → Type 0
ArePlanned db plan events from to runs =
    (pred : TypedPred) (version : ℕ) (keep : List Bool)
    → keep ≡ map (passes pred) (rows_of db plan.table)
    → events ≡ kept_events keep (valid_events_in (rows_of db plan.table) version)
    → runs ≡ planned_runs db plan pred (span.Valid version from to)
