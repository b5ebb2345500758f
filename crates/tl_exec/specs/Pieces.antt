-- Aggregates over versions, piece by piece.
use Rattle.std.specs.Prelude.{◌≡◌, ℕ, ◌+◌, ◌<◌, ◌≤◌, Bool, List, length, Some, slice_get}
use Rattle.tl_types.specs.declared.commits.Entry.{Entry}
use Rattle.tl_types.specs.declared.runs.Piece.{Piece}
use Rattle.tl_types.specs.declared.runs.Run.{Run}
use Rattle.tl_types.specs.Entries.{commits_of}
use Rattle.tl_types.specs.History.{database_of, rows_of}
use Rattle.tl_types.specs.Plain as plain
use Rattle.tl_query.specs.declared.typed_queries.AggPlan.{AggPlan}
use Rattle.tl_query.specs.declared.typed_queries.Span.TheVariants as span
use Rattle.tl_query.specs.declared.typed_queries.TypedPred.{TypedPred}
use Rattle.tl_query.specs.Aggregates.{aggregate_runs}
use Rattle.tl_filter.specs.Selecting.{IsTypedPredFor}
use Rattle.tl_running.specs.Standing.{Suits}
use Rattle.tl_agg.specs.Runs.{system_runs}
use Rattle.tl_agg.specs.Scans.{IsSystemTimePlanFor, table_in}
use Rattle.tl_range.specs.Dividing.{Follow}

-- the plan is one for a table of the snapshot, the kept rows are some of that table's, and the
-- versions before an end are there
pub record CanScan (entries : List Entry) (plan : AggPlan) (keep : List Bool) (to : ℕ)
    : Type 0 where
  pub table : plan.table < length (database_of (commits_of entries)).tables
  pub suits : IsSystemTimePlanFor (table_in entries plan.table) plan
  pub kept : length keep ≡ length (rows_of (database_of (commits_of entries)) plan.table)
  pub few : length keep ≤ 16777216
  pub within : to ≤ (database_of (commits_of entries)).version + 1

-- it can be scanned, and the plan suits the rows of its table: the runs of pieces of it can be put
-- together
pub record CanDivide (entries : List Entry) (plan : AggPlan) (keep : List Bool) (to : ℕ)
    : Type 0 where
  pub scan : CanScan entries plan keep to
  pub suits : Suits plan.kind plan.column (rows_of (database_of (commits_of entries)) plan.table)

-- the plan is one for a table of the database, the predicate is one for that table, and the
-- versions before an end are there
pub record IsAskedOf (db : plain.Database) (plan : AggPlan) (pred : TypedPred) (to : ℕ)
    : Type 0 where
  pub table : plan.table < length db.tables
  pub suits : IsSystemTimePlanFor (record { db = db; number = plan.table }) plan
  pub typed : IsTypedPredFor db plan.table pred
  pub within : to ≤ db.version + 1

-- the runs of a plan of the rows that pass a predicate, over the versions from one on and before
-- another
abbrev pub asked_runs : plain.Database → AggPlan → TypedPred → ℕ → ℕ → List Run
asked_runs db plan pred from to =
    aggregate_runs db plan.table plan.kind plan.column plan.by pred (span.System from to)

-- a scan of the rows of a snapshot that are kept, by a plan, up to a version
pub record DividedScanOf : Type 0 where
  pub entries : List Entry
  pub plan : AggPlan
  pub keep : List Bool
  pub to : ℕ

-- the runs that a scan has over the versions from one on and before another
abbrev pub runs_of_scan : DividedScanOf → ℕ → ℕ → List Run
runs_of_scan scan from to =
    system_runs scan.plan (rows_of (database_of (commits_of scan.entries)) scan.plan.table)
    scan.keep from to

-- the parts are the runs of a plan over each of the pieces
pub record AreRunsOver (plan : AggPlan) (rows : List plain.Row) (keep : List Bool)
    (pieces : List Piece) (parts : List (List Run)) : Type 0 where
  pub many : length parts ≡ length pieces
  pub each : (i : ℕ) (piece : Piece) (part : List Run) → slice_get pieces i ≡ Some piece
      → slice_get parts i ≡ Some part → part ≡ system_runs plan rows keep piece.from piece.to

-- where the parts are the runs of a plan over pieces that follow on each other, and the plan suits
-- the rows, these runs are those over all of the pieces
abbrev pub PutsTogether : List (List Run) → List Run → Type 0
PutsTogether parts runs =
    (plan : AggPlan) (rows : List plain.Row) (keep : List Bool) (from to : ℕ)
    (pieces : List Piece) → Suits plan.kind plan.column rows → Follow from to pieces
    → AreRunsOver plan rows keep pieces parts → runs ≡ system_runs plan rows keep from to
