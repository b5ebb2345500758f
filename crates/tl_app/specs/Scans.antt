-- A scan of events of valid time, in order.
use Rattle.std.specs.Prelude.{◌≡◌, ℕ, ℤ, ◌<◌, ◌≤◌, ◌<ℤ◌, ◌≤ℤ◌, ◌==◌, Bool, false, not, int_le, int_lt, List, length, IsTrue, Option, Some, None, slice_index_or, if◌then◌else◌}
use Rattle.tl_types.specs.declared.answers.Field.{Field}
use Rattle.tl_types.specs.declared.commits.Commit.{Commit}
use Rattle.tl_types.specs.declared.events.ValidEvent.{ValidEvent}
use Rattle.tl_types.specs.declared.runs.Run.{Run}
use Rattle.tl_types.specs.History.{database_of, rows_of}
use Rattle.tl_types.specs.Plain as plain
use Rattle.tl_query.specs.Aggregates.{aggregate_of}
use Rattle.tl_query.specs.declared.ast.AggKind.{AggKind}
use Rattle.tl_query.specs.declared.ast.AggKind.TheVariants as kind
use Rattle.tl_query.specs.declared.typed_queries.AggPlan.{AggPlan}
use Rattle.tl_store.specs.Reading.{columns_of, has_periods, IsIntColumn}
use Rattle.tl_running.specs.Standing.{Kept, Suits, StandsFor}
use Rattle.tl_running.specs.Telling.{has_rows}
use Rattle.tl_app.specs.Opening.{open_rows, up_to}

-- the plan is one for its table, whose rows have valid periods: its column holds numbers, a count
-- has none, and what separates the rows into groups is a column
pub record IsValidTimePlanFor (db : plain.Database) (plan : AggPlan) : Type 0 where
  pub valid : IsTrue (has_periods db plan.table)
  pub column : (c : ℕ) → plan.column ≡ Some c → IsIntColumn (columns_of db plan.table) c
  pub kind : plan.column ≡ None → plan.kind ≡ kind.Count
  pub by : (c : ℕ) → plan.by ≡ Some c → c < length (columns_of db plan.table)

-- the rows of the plan's table
abbrev pub plan_rows : List Commit → AggPlan → List plain.Row
plan_rows commits plan = rows_of (database_of commits) plan.table

-- what is kept is that of the rows that are open after these events
pub record Holds (rows : List plain.Row) (plan : AggPlan) (done : List ValidEvent)
    (kept : Kept) : Type 0 where
  pub kind : kept.kind ≡ plan.kind
  pub stands : StandsFor kept plan.column (open_rows rows done)
  pub suits : Suits plan.kind plan.column (open_rows rows done)

-- the aggregate of the rows that are open at a moment
abbrev pub open_value : List plain.Row → AggPlan → List ValidEvent → ℤ → Field
open_value rows plan events moment =
    aggregate_of plan.kind plan.column (open_rows rows (up_to events moment))

-- the value of the run tells whether a row is open where it begins
abbrev pub Tells : List plain.Row → AggPlan → List ValidEvent → Run → Type 0
Tells rows plan events run =
    has_rows plan.kind run.value ≡ not (length (open_rows rows (up_to events run.from)) == 0)

-- the event that is there has come
abbrev pub due_at : Option ValidEvent → ℤ → Bool
due_at None at = false
due_at (Some event) at = int_le event.time at

-- the next moment at which an event comes, the end at most
abbrev pub next_of : Option ValidEvent → ℤ → ℤ
next_of None to = to
next_of (Some event) to = if int_lt event.time to then event.time else to

-- the first events, so many, are those up to the moment
pub record IsCut (events : List ValidEvent) (at : ℤ) (i : ℕ) : Type 0 where
  pub within : i ≤ length events
  pub front : (k : ℕ) (d : ValidEvent) → k < i → (slice_index_or events k d).time ≤ℤ at
  pub back : (k : ℕ) (d : ValidEvent) → i ≤ k → k < length events
      → at <ℤ (slice_index_or events k d).time

-- the plan of these parts
abbrev pub plan_of : ℕ → AggKind → Option ℕ → Option ℕ → AggPlan
plan_of table kind column by =
    record { table = table; kind = kind; column = column; by = by }
