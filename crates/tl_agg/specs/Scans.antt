-- A scan of a table: what is wanted, and how far the walk along its events has come.
use Rattle.std.specs.Prelude.{◌≡◌, ℕ, ℤ, ◌+◌, ◌<◌, ◌≤◌, Bool, not, List, length, take, drop, Some, None, is_some, slice_get, slice_set, [], map, Option, if◌then◌else◌}
use Rattle.tl_types.specs.declared.events.Event.{Event}
use Rattle.tl_types.specs.Plain as plain
use Rattle.tl_types.specs.Events.{events_at, events_of, place_of}
use Rattle.tl_types.specs.Walks.{standing, after_event, after_events, IsQuiet}
use Rattle.std.specs.Map.{lookup}
use Rattle.tl_types.specs.declared.cells.Cell.{Cell}
use Rattle.tl_types.specs.History.{database_of, same_cell}
use Rattle.tl_query.specs.Aggregates.{has_value}
use Rattle.tl_query.specs.declared.ast.AggKind.{AggKind}
use Rattle.tl_query.specs.declared.ast.AggKind.TheVariants as kind
use Rattle.tl_query.specs.declared.typed_queries.AggPlan.{AggPlan}
use Rattle.tl_store.specs.Reading.{columns_of, IsIntColumn}
use Rattle.tl_agg.specs.Columns.{AreNumbers, AreKeys}
use Rattle.tl_types.specs.declared.commits.Entry.{Entry}
use Rattle.tl_types.specs.Entries.{commits_of}
use Rattle.tl_events.specs.declared.version_maps.VersionEnd.{VersionEnd}
use Rattle.tl_events.specs.Timeline.{Follow}
use Rattle.tl_index.specs.Tables.{TableOf, rows_in}
use Rattle.tl_agg.specs.Kept.{both}
use Rattle.tl_agg.specs.Groups.{Wanted, Tracks, State, IsNone, IsOne, HoldsIn, Moves, AreAdvanced, recounted, summed}
use Rattle.tl_query.specs.Ordered.{Rises}
use Rattle.tl_keys.specs.Keys.{KeyNumbers}
use Rattle.tl_keys.specs.Numbered.{AreNumbered}
use Rattle.tl_running.specs.Standing.{CanChange}
use Rattle.tl_types.specs.declared.runs.Run.{Run}

-- the table with a number of what a snapshot shows
abbrev pub table_in : List Entry → ℕ → TableOf
table_in entries number = record { db = database_of (commits_of entries); number = number }

-- the plan is one for the table: its column holds numbers, a count has none, and what separates the
-- rows into groups is a column
pub record IsSystemTimePlanFor (table : TableOf) (plan : AggPlan) : Type 0 where
  pub column : (c : ℕ) → plan.column ≡ Some c → IsIntColumn (columns_of table.db table.number) c
  pub kind : plan.column ≡ None → plan.kind ≡ kind.Count
  pub by : (c : ℕ) → plan.by ≡ Some c → c < length (columns_of table.db table.number)

-- the scan of a table by a plan for the rows that are kept, from a version on up to another
pub record ScanOf : Type 0 where
  pub table : TableOf
  pub plan : AggPlan
  pub keep : List Bool
  pub from : ℕ
  pub to : ℕ

-- the scan of these parts
abbrev pub scan_of : TableOf → AggPlan → List Bool → ℕ → ℕ → ScanOf
scan_of table plan keep from to =
    record { table = table; plan = plan; keep = keep; from = from; to = to }

-- what is wanted of the rows of a set
abbrev pub wanted_of : ScanOf → List Bool → Wanted
wanted_of scan keep =
    record {
      rows = rows_in scan.table;
      keep = keep;
      kind = scan.plan.kind;
      column = scan.plan.column;
      gaps = is_some scan.plan.by;
      from = scan.from;
    }

-- the kept rows that have the value in the column
abbrev pub keep_with : ScanOf → ℕ → Cell → List Bool
keep_with scan by value = both scan.keep (map (has_value by value) (rows_in scan.table))

-- the plan suits the table, the set is of its rows, and the versions are there
pub record IsScan (scan : ScanOf) : Type 0 where
  pub plan : IsSystemTimePlanFor scan.table scan.plan
  pub keep : length scan.keep ≡ length (rows_in scan.table)
  pub within : scan.to ≤ scan.table.db.version + 1
  pub later : scan.from < scan.to

-- it is a scan, and these are the numbers of the column that it is over, where there is one, and
-- those of the column that separates the rows into groups, where they are read of it
pub record ReadsNumbers (scan : ScanOf) (numbers cells : Option (List ℤ)) : Type 0 where
  pub is_scan : IsScan scan
  pub are : AreNumbers (rows_in scan.table) scan.plan.column numbers
  pub keys : AreKeys (rows_in scan.table) scan.plan.by cells

-- the event is of a row of the set, and changes it
pub record Turns (rows : List plain.Row) (set : List Bool) (event : Event) : Type 0 where
  pub long : length set ≡ length rows
  pub turn : slice_get set event.row ≡ Some (not event.opens)

-- the rows that stand after so many events
abbrev pub set_after : TableOf → ℕ → List Bool
set_after table place =
    after_events (standing (rows_in table) 0)
    (take place (events_of (rows_in table) table.db.version))

-- an entry of a version map that is behind a version and before another, by those behind the first
pub record IsNextEntry (rows : List plain.Row) (last at to : ℕ) (entry : VersionEnd)
    (behind : List VersionEnd) : Type 0 where
  pub later : at < entry.version
  pub before : entry.version < to
  pub within : entry.version ≤ last
  pub quiet : IsQuiet rows at entry.version
  pub place : entry.end ≡ place_of rows entry.version
  pub some : 0 < length (events_at rows entry.version)
  pub rest : Follow rows last entry.version behind

-- the groups of a scan: that of all rows, and that of each value of a column, by the number of the
-- value
pub record Groups : Type 0 where
  pub all : State
  pub keys : KeyNumbers
  pub by : List (Cell × State)

-- the groups, where that of all rows has so many
abbrev pub all_recounted : Groups → ℕ → Groups
all_recounted groups count = record groups { all = recounted groups.all count }

-- the groups, where that of all rows has so many, and this sum
abbrev pub all_summed : Groups → ℕ → ℤ → Groups
all_summed groups count sum = record groups { all = summed groups.all count sum }

-- the group of a value, where there is one
abbrev pub group_of : Groups → Cell → Option State
group_of groups value = lookup (same_cell value) groups.by

-- groups of no rows since a version
pub record AreNone (groups : Groups) (kind : AggKind) (gaps : Bool) (since : ℕ) : Type 0 where
  pub all : IsNone groups.all kind gaps since
  pub numbered : AreNumbered groups.keys groups.by
  pub by : groups.by ≡ []

-- a value has this number and a group: the one that it had, or one of no rows since a version
pub record HasPlace (old new : Groups) (value : Cell) (kind : AggKind) (since n : ℕ)
    : Type 0 where
  pub group : State
  pub there : slice_get new.by n ≡ Some (value, group)
  pub one : IsOne (group_of old value) kind since group
  pub numbered : AreNumbered new.keys new.by
  pub others : (x : Cell) → group_of new x
      ≡ (if same_cell x value then Some group else group_of old x)

-- a number can come into the group with this number, or this one can go
pub record CanMoveAt (by : List (Cell × State)) (n : ℕ) (opens : Bool) (number : ℤ) : Type 0 where
  pub value : Cell
  pub group : State
  pub there : slice_get by n ≡ Some (value, group)
  pub can : CanChange opens group.running number

-- a number comes into the group with this number at a version, or goes
pub record MovesAt (old new : List (Cell × State)) (n at : ℕ) (opens : Bool) (number : ℤ)
    : Type 0 where
  pub value : Cell
  pub group : State
  pub moved : State
  pub was : slice_get old n ≡ Some (value, group)
  pub now : new ≡ slice_set old n (value, moved)
  pub moves : Moves group moved at opens number

-- these are the groups in order of their values
pub record AreSorted (by sorted : List (Cell × State)) : Type 0 where
  pub rises : Rises (map (λ group. group.0) sorted)
  pub same : (x : Cell) → lookup (same_cell x) sorted ≡ lookup (same_cell x) by

-- these are the runs of the groups, in order of their values, when they are advanced to a version
pub record AreAllAdvanced (by : List (Cell × State)) (to : ℕ) (all : List Run) : Type 0 where
  pub sorted : List (Cell × State)
  pub are : AreSorted by sorted
  pub advanced : AreAdvanced sorted to all

-- at a version, when the rows of a set stand, the groups are those of the kept ones among them
abbrev pub TrackBy : Option ℕ → ScanOf → List Bool → ℕ → Groups → Type 0
TrackBy None scan set at groups = Tracks (wanted_of scan scan.keep) set at groups.all
TrackBy (Some by) scan set at groups =
    AreNumbered groups.keys groups.by × ((value : Cell)
    → HoldsIn (wanted_of scan (keep_with scan by value)) set at (group_of groups value))

-- so it is with the groups of the scan's plan
abbrev pub AllTrack : ScanOf → List Bool → ℕ → Groups → Type 0
AllTrack scan set at groups = TrackBy scan.plan.by scan set at groups

-- the events stand at a place among those of the table, and at a version the groups are those of
-- the rows that stand before them
pub record IsRun (scan : ScanOf) (at place : ℕ) (events : List Event) (groups : Groups)
    : Type 0 where
  pub are : events ≡ take (length events)
      (drop place (events_of (rows_in scan.table) scan.table.db.version))
  pub tracks : AllTrack scan (set_after scan.table place) at groups

-- so it is where all rows have one group, whose runs reach up to the version
pub record IsRunOfAll (scan : ScanOf) (at place : ℕ) (events : List Event) (groups : Groups)
    : Type 0 where
  pub single : scan.plan.by ≡ None
  pub are : events ≡ take (length events)
      (drop place (events_of (rows_in scan.table) scan.table.db.version))
  pub tracks : AllTrack scan (set_after scan.table place) at groups
  pub since : groups.all.since ≡ at

-- at a version the groups are those of the rows that stand behind the events, which begin at a
-- place
abbrev pub TakesRun : ScanOf → ℕ → ℕ → List Event → Groups → Type 0
TakesRun scan at place events groups =
    AllTrack scan (set_after scan.table (place + length events)) at groups

-- the groups are those of a set which the event changes
pub record IsReady (scan : ScanOf) (at : ℕ) (event : Event) (groups : Groups) : Type 0 where
  pub set : List Bool
  pub turns : Turns (rows_in scan.table) set event
  pub tracks : AllTrack scan set at groups

-- where the groups were those of a set which the event changes, they now are those of the set after
-- the event
abbrev pub TakesEvent : ScanOf → ℕ → Event → Groups → Groups → Type 0
TakesEvent scan at event old new =
    (set : List Bool) → Turns (rows_in scan.table) set event → AllTrack scan set at old
    → AllTrack scan (after_event set event) at new
