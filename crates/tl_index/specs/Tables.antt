-- A table of a store, with its timeline.
use Rattle.std.specs.Prelude.{◌≡◌, ℕ, ◌+◌, ◌<◌, List, length}
use Rattle.tl_types.specs.declared.events.Event.{Event}
use Rattle.tl_types.specs.Plain as plain
use Rattle.tl_types.specs.Events.{events_of}
use Rattle.tl_types.specs.History.{rows_of}
use Rattle.tl_types.specs.WellFormed.{AreWellFormed}
use Rattle.tl_events.specs.declared.version_maps.VersionEnd.{VersionEnd}
use Rattle.tl_events.specs.Timeline.{ends_of, binary_digits}

-- the table with a number of a database
pub record TableOf : Type 0 where
  pub db : plain.Database
  pub number : ℕ

-- its rows
abbrev pub rows_in : TableOf → List plain.Row
rows_in table = rows_of table.db table.number

-- the table is there with rows as a history leaves them, and these are its events and the ends of
-- its versions
pub record HasTimeline (table : TableOf) (events : List Event) (ends : List VersionEnd)
    : Type 0 where
  pub there : table.number < length table.db.tables
  pub formed : AreWellFormed table.db.version (rows_in table)
  pub events_are : events ≡ events_of (rows_in table) table.db.version
  pub ends_are : ends ≡ ends_of (rows_in table) table.db.version

-- the ends of its versions
abbrev pub ends_in : TableOf → List VersionEnd
ends_in table = ends_of (rows_in table) table.db.version

-- the most steps that the search for a version takes
abbrev pub search_steps : TableOf → ℕ
search_steps table = binary_digits (length (ends_in table) + 1)
