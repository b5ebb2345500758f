-- One side of a join over valid time.
use Rattle.std.specs.Prelude.{◌≡◌, ◌<◌, ℕ, List, length, IsTrue, Option, slice_get}
use Rattle.std.specs.List.{filter_map, AllByRecursion}
use Rattle.tl_types.specs.declared.events.ValidEvent.{ValidEvent}
use Rattle.tl_types.specs.History.{database_of, rows_of}
use Rattle.tl_types.specs.Plain as plain
use Rattle.tl_query.specs.declared.typed_queries.JoinPlan.{JoinPlan}
use Rattle.tl_store.specs.Reading.{columns_of, has_periods}
use Rattle.tl_join.specs.declared.entries.Entry.{Entry}
use Rattle.tl_keys.specs.Keys.{KeyNumbers, KeepsNumbers}
use Rattle.tl_join.specs.declared.valid_sides.Side.{Side}
use Rattle.tl_join.specs.ValidEntries.{entry_at, IsKnown, IsOfRow}

-- the rows of the side's table
abbrev pub side_rows : Side → List plain.Row
side_rows side = rows_of (database_of side.store.now) side.table

-- the rows of the side's table have periods, its column is there, and its set has so many rows
pub record IsSide (side : Side) : Type 0 where
  pub periods : IsTrue (has_periods (database_of side.store.now) side.table)
  pub column : side.column < length (columns_of (database_of side.store.now) side.table)
  pub keep : length side.keep.now ≡ length (side_rows side)

-- what the event has of the plan's range
abbrev pub entry_by : Side → JoinPlan → KeyNumbers → ValidEvent → Option Entry
entry_by side plan keys event =
    entry_at plan (side_rows side) side.column side.keep.now keys event

-- where the event has an entry, its key has a number
abbrev pub IsKnownBy : Side → JoinPlan → KeyNumbers → ValidEvent → Type 0
IsKnownBy side plan keys event = IsKnown plan (side_rows side) side.column side.keep.now keys event

-- whatever keys get numbers later, this is the entry of the side's row with an id
abbrev pub IsRowEntry : Side → JoinPlan → KeyNumbers → ℕ → Option Entry → Type 0
IsRowEntry side plan keys id entry =
    IsOfRow plan side.column keys id (slice_get (side_rows side) id) entry

-- whatever keys get numbers later, this is the event's entry
abbrev pub IsEventEntry : Side → JoinPlan → KeyNumbers → ValidEvent → Option Entry → Type 0
IsEventEntry side plan keys event entry =
    (later : KeyNumbers) → KeepsNumbers keys later
    → (entry ≡ entry_by side plan later event) × IsKnownBy side plan later event

-- whatever keys get numbers later, these are the entries of the events, in their order
abbrev pub AreEntries : Side → JoinPlan → KeyNumbers → List ValidEvent → List Entry → Type 0
AreEntries side plan keys events entries =
    (later : KeyNumbers) → KeepsNumbers keys later
    → (entries ≡ filter_map (entry_by side plan later) events)
    × AllByRecursion (IsKnownBy side plan later) events
