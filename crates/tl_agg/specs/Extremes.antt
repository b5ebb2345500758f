-- A scan for a least or greatest number of all kept rows, which goes by the beginnings of rows and
-- the ends that are known there.
use Rattle.std.specs.Prelude.{◌≡◌, ℕ, ℤ, pos, ◌<◌, ◌≤◌, nat_lt, Bool, true, false, List, [], ◌∷◌, ◌+◌, length, take, drop, Option, None, Some, slice_get, if◌then◌else◌}
use Rattle.tl_types.specs.declared.events.Event.{Event}
use Rattle.tl_types.specs.declared.runs.Run.{Run}
use Rattle.tl_types.specs.Plain as plain
use Rattle.tl_types.specs.Events.{events_of}
use Rattle.tl_types.specs.Runs.{add_stretch, stretch_of}
use Rattle.tl_types.specs.Walks.{standing}
use Rattle.tl_bits.specs.Sets.{is_member}
use Rattle.tl_index.specs.Tables.{rows_in}
use Rattle.tl_query.specs.Aggregates.{aggregate_of}
use Rattle.tl_running.specs.Standing.{is_ordered, Suits}
use Rattle.tl_running.specs.Lasting.{ExtremeOf, Comes, Takes, lasting_of, StandsFrom, AllLast}
use Rattle.tl_agg.specs.Groups.{kept_in, runs_to}
use Rattle.tl_agg.specs.Scans.{ScanOf, wanted_of, set_after}

-- what is kept of the rows that came, since which version, and the runs before it
pub record ExtremeState : Type 0 where
  pub extreme : ExtremeOf
  pub since : ℕ
  pub runs : List Run

-- the version at which a row has ended
abbrev pub end_of : plain.Row → ℤ
end_of row = pos row.to

-- what is kept stands for some rows from the version since which nothing changed
abbrev pub StandsSince : ExtremeState → Option ℕ → List plain.Row → Type 0
StandsSince state column rows = StandsFrom state.extreme (pos state.since) column end_of rows

-- the runs up to a version, where the rows since the last one are these
abbrev pub extreme_runs : ExtremeState → ℕ → Option ℕ → List plain.Row → List Run
extreme_runs old to column rows =
    if nat_lt old.since to
    then add_stretch old.runs
    (stretch_of (pos old.since) (pos to) (aggregate_of old.extreme.kind column rows))
    else old.runs

-- the runs are made to reach up to a version, which is not before those of the last change
pub record ExtremeAdvances (old new : ExtremeState) (to : ℕ) : Type 0 where
  pub kind : new.extreme.kind ≡ old.extreme.kind
  pub since : old.since ≤ to → new.since ≡ to
  pub stands : (column : Option ℕ) (rows : List plain.Row) → old.since ≤ to
      → StandsSince old column rows → StandsSince new column rows
  pub runs : (column : Option ℕ) (rows : List plain.Row)
      → is_ordered old.extreme.kind ≡ true → StandsSince old column rows
      → (old.since < to → AllLast (pos old.since) end_of rows)
      → Suits old.extreme.kind column rows → new.runs ≡ extreme_runs old to column rows

-- these are the runs when they are made to reach up to a version
pub record AreExtremeRuns (old : ExtremeState) (to : ℕ) (runs : List Run) : Type 0 where
  pub state : ExtremeState
  pub advances : ExtremeAdvances old state to
  pub are : runs ≡ state.runs

-- a number comes with its end, and all else stays
pub record ExtremePuts (old new : ExtremeState) (number end : ℤ) : Type 0 where
  pub comes : Comes old.extreme new.extreme number end
  pub since : new.since ≡ old.since
  pub runs : new.runs ≡ old.runs

-- a row comes
pub record RowComes (old new : ExtremeState) (column : Option ℕ) (row : plain.Row)
    : Type 0 where
  pub kind : new.extreme.kind ≡ old.extreme.kind
  pub since : new.since ≡ old.since
  pub runs : new.runs ≡ old.runs
  pub suits : Suits old.extreme.kind column (row ∷ [])
  pub takes : Takes old.extreme.kept new.extreme.kept
      (lasting_of old.extreme.kind column end_of row)

-- the row with this id comes
abbrev pub IdComes : ScanOf → ℕ → ExtremeState → ExtremeState → Type 0
IdComes scan id old new = (row : plain.Row) → slice_get (rows_in scan.table) id ≡ Some row
    → RowComes old new scan.plan.column row

-- the row of an event comes, where it is kept; one that goes does so by itself
pub record EventComes (scan : ScanOf) (event : Event) (old new : ExtremeState) : Type 0 where
  pub goes : event.opens ≡ false → new ≡ old
  pub left : is_member scan.keep event.row ≡ false → new ≡ old
  pub comes : event.opens ≡ true → is_member scan.keep event.row ≡ true
      → IdComes scan event.row old new

-- at a version, when so many of its events are done that the rows of this set stand, the runs reach
-- up to the last version that changed anything, and what is kept stands for the kept rows since it
pub record TracksExtreme (scan : ScanOf) (set : List Bool) (at : ℕ) (state : ExtremeState)
    : Type 0 where
  pub kind : state.extreme.kind ≡ scan.plan.kind
  pub stands : StandsSince state scan.plan.column (kept_in (wanted_of scan scan.keep) set)
  pub suits : Suits scan.plan.kind scan.plan.column (kept_in (wanted_of scan scan.keep) set)
  pub after : scan.from ≤ state.since
  pub before : state.since ≤ at
  pub made : state.runs ≡ runs_to (wanted_of scan scan.keep) state.since
  pub same : (version : ℕ) → state.since ≤ version → version < at
      → kept_in (wanted_of scan scan.keep) (standing (rows_in scan.table) version)
      ≡ kept_in (wanted_of scan scan.keep) set

-- the rows that go by the events from one place up to another have ended at the version
abbrev pub EndAt : List plain.Row → List Event → ℕ → ℕ → ℕ → Type 0
EndAt rows events from to at = (i : ℕ) (event : Event) (row : plain.Row) → from ≤ i → i < to
    → slice_get events i ≡ Some event → event.opens ≡ false
    → slice_get rows event.row ≡ Some row → row.to ≡ at

-- the events stand at a place among those of the table and end rows at a version; there what is
-- kept is that of the rows that stand before them, and the runs reach up to the version
pub record IsExtremeRun (scan : ScanOf) (at place : ℕ) (events : List Event)
    (state : ExtremeState) : Type 0 where
  pub are : events ≡ take (length events)
      (drop place (events_of (rows_in scan.table) scan.table.db.version))
  pub ends : EndAt (rows_in scan.table)
      (events_of (rows_in scan.table) scan.table.db.version) place (place + length events) at
  pub tracks : TracksExtreme scan (set_after scan.table place) at state
  pub since : state.since ≡ at

-- what is kept is that of the rows that stand after some events, and the runs reach up to the
-- version
pub record TracksAt (scan : ScanOf) (place at : ℕ) (state : ExtremeState) : Type 0 where
  pub tracks : TracksExtreme scan (set_after scan.table place) at state
  pub since : state.since ≡ at

-- the scan is for a least or greatest number of all kept rows
pub record IsExtreme (scan : ScanOf) : Type 0 where
  pub single : scan.plan.by ≡ None
  pub kind : is_ordered scan.plan.kind ≡ true

-- where all kept rows have one group, no order of their numbers is asked for
abbrev pub IsSummed : ScanOf → Type 0
IsSummed scan = scan.plan.by ≡ None → is_ordered scan.plan.kind ≡ false
