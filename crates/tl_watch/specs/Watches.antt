-- A watch, and the commits for which it stands.
use Rattle.std.specs.Prelude.{◌≡◌, ℕ, ◌+◌, ◌*◌, ◌<◌, ◌≤◌, ◌==◌, Bool, List, length, map, sum_by, Option, None, Some, if◌then◌else◌, slice_get, slice_set, All}
use Rattle.tl_types.specs.declared.commits.Body.{Body}
use Rattle.tl_types.specs.declared.commits.Body.TheVariants as body
use Rattle.tl_types.specs.declared.commits.Commit.{Commit}
use Rattle.tl_types.specs.declared.commits.Entry.{Entry}
use Rattle.tl_types.specs.History.{database_of, rows_of}
use Rattle.tl_types.specs.Legality.{FitInTurn, database_behind}
use Rattle.tl_types.specs.Limits.{standard_limits}
use Rattle.tl_types.specs.Plain as plain
use Rattle.tl_query.specs.declared.ast.AggKind.TheVariants as kind
use Rattle.tl_query.specs.declared.typed_queries.Span.{Span}
use Rattle.tl_query.specs.declared.typed_queries.Typed.TheVariants as typed
use Rattle.tl_query.specs.TypedFor.{IsTypedFor}
use Rattle.tl_running.specs.Standing.{Suits}
use Rattle.tl_store.specs.Reading.{columns_of, IsIntColumn}
use Rattle.tl_travel.specs.Bounds.{events_after_mark, begun_words, map_digits}
use Rattle.tl_watch.specs.declared.plans.WatchPlan.{WatchPlan}
use Rattle.tl_watch.specs.Reading.{HaveColumns, IsWithin}
use Rattle.tl_watch.specs.Standings.{standing_rows, tests_in}
use Rattle.tl_watch.specs.States.{State, Stands}

-- a plan, and what is kept of it
pub record Watched : Type 0 where
  pub plan : WatchPlan
  pub state : State

-- a watch, whether it is live, and its plans in order of their numbers
pub record Watch : Type 0 where
  pub live : Bool
  pub plans : List Watched

-- a query for the plan over some range suits a database
abbrev pub IsOfQuery : WatchPlan → plain.Database → Type 0
IsOfQuery plan db =
    (span : Span)
    × IsTypedFor db (typed.Agg plan.table plan.kind plan.column plan.by plan.pred span)

-- the plan is one for a table of a database: its tests are of columns that are there, so is what
-- separates the rows, its column holds numbers, and only a count has none
pub record IsPlanFor (plan : WatchPlan) (db : plain.Database) : Type 0 where
  pub there : plan.table < length db.tables
  pub tests : All (λ tests. HaveColumns tests (length (columns_of db plan.table))) plan.pred.any
  pub column : (c : ℕ) → plan.column ≡ Some c → IsIntColumn (columns_of db plan.table) c
  pub kind : plan.column ≡ None → plan.kind ≡ kind.Count
  pub by : IsWithin plan.by (length (columns_of db plan.table))

-- each row of the plan's table has a number where the plan asks for one, and what is kept is that
-- of those that stand and pass
pub record StandsOver (watched : Watched) (db : plain.Database) : Type 0 where
  pub plan : IsPlanFor watched.plan db
  pub suits : Suits watched.plan.kind watched.plan.column (rows_of db watched.plan.table)
  pub stands : Stands watched.plan watched.state
      (standing_rows db watched.plan.table watched.plan.pred)

-- so is what is kept of each plan
abbrev pub AllStand : List Watched → plain.Database → Type 0
AllStand plans db =
    (i : ℕ) (watched : Watched) → slice_get plans i ≡ Some watched → StandsOver watched db

-- the commits fit one after the other, and what is kept of each plan is that of the rows that stand
-- after them
pub record StandsForCommits (watch : Watch) (commits : List Commit) : Type 0 where
  pub fit : FitInTurn standard_limits commits
  pub all : AllStand watch.plans (database_of commits)

-- the plan with a number
abbrev pub plan_at : Watch → ℕ → Option WatchPlan
plan_at watch number = slice_get (map (λ (w : Watched). w.plan) watch.plans) number

-- the most steps that a plan takes for a commit: where it changes the plan's table, two and one for
-- each test for each row that is closed
abbrev pub most_steps_for : Body → Watched → ℕ
most_steps_for (body.Create schema) watched = 0
most_steps_for (body.Change change) watched =
    if watched.plan.table == change.table
    then (tests_in watched.plan.pred + 2) * length change.closes
    else 0
most_steps_for (body.Moment moment) watched = 0
most_steps_for (body.Forget number floor) watched = 0

-- and all plans
abbrev pub most_steps : Watch → Body → ℕ
most_steps watch body = sum_by (most_steps_for body) watch.plans

-- the most steps that a plan takes when it begins: those that it takes to find the rows of its
-- table that stand and pass, and three for each of them
abbrev pub start_steps : List Entry → WatchPlan → ℕ
start_steps entries plan =
    events_after_mark entries plan.table (database_behind entries).version
    + (tests_in plan.pred + 5) * begun_words (database_behind entries) plan.table
    + 2 * map_digits (database_behind entries) plan.table
    + 3 * length (standing_rows (database_behind entries) plan.table plan.pred)

-- the plans, without what is kept
abbrev pub plans_of : List Watched → List WatchPlan
plans_of plans = map (λ (w : Watched). w.plan) plans

-- what is kept of the plan with a number is that of the rows that stand and pass
abbrev pub StandsAt : List Watched → ℕ → plain.Database → Type 0
StandsAt plans i db =
    (watched : Watched) → slice_get plans i ≡ Some watched → StandsOver watched db

-- what is kept of the plan with a number changed, and is that of the rows that stand and pass
pub record FollowsAt (old new : List Watched) (i : ℕ) (db : plain.Database) : Type 0 where
  pub watched : Watched
  pub puts : new ≡ slice_set old i watched
  pub stands : StandsOver watched db

-- it took at most the steps of the plan with a number
abbrev pub StepsAt : List Watched → ℕ → Body → ℕ → ℕ → Type 0
StepsAt plans i body before after =
    (watched : Watched) → slice_get plans i ≡ Some watched
    → after ≤ before + most_steps_for body watched
