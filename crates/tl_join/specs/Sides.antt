-- One side of a join, and what its rows have of the join's range.
use Rattle.std.specs.Prelude.{◌≡◌, ◌<◌, ℕ, pos, List, length, map, Option, Some, None, slice_get}
use Rattle.std.specs.Int.{int_min, int_max}
use Rattle.tl_types.specs.Events.{events_of}
use Rattle.tl_types.specs.History.{database_of, rows_of, cell_at}
use Rattle.tl_types.specs.Plain as plain
use Rattle.tl_types.specs.WellFormed.{AreWellFormed, BeginInOrder}
use Rattle.tl_query.specs.declared.typed_queries.JoinPlan.{JoinPlan}
use Rattle.tl_store.specs.Reading.{columns_of}
use Rattle.tl_events.specs.Timeline.{ends_of}
use Rattle.tl_join.specs.declared.entries.Entry.{Entry}
use Rattle.tl_join.specs.declared.sides.Side.{Side}
use Rattle.tl_keys.specs.Keys.{KeyNumbers, number_at}

-- the rows of the side's table
abbrev pub side_rows : Side → List plain.Row
side_rows side = rows_of (database_of side.store.now) side.table

-- the last version that the side's store has
abbrev pub last_in : Side → ℕ
last_in side = (database_of side.store.now).version

-- the side's table and column are there, its events and the ends of its versions are those of the
-- table's rows, and its sets have so many rows
pub record IsSide (side : Side) : Type 0 where
  pub table : side.table < length (database_of side.store.now).tables
  pub column : side.column < length (columns_of (database_of side.store.now) side.table)
  pub events : side.events.now ≡ events_of (side_rows side) (last_in side)
  pub ends : side.ends.now ≡ ends_of (side_rows side) (last_in side)
  pub formed : AreWellFormed (last_in side) (side_rows side)
  pub order : BeginInOrder 0 (side_rows side)
  pub start : length side.start.now ≡ length (side_rows side)
  pub keep : length side.keep.now ≡ length (side_rows side)

-- the entry has of the row what its versions and the plan's range have in common, and the number
-- of its key
abbrev pub IsOfRow : ℕ → JoinPlan → KeyNumbers → Option plain.Row → Entry → Type 0
IsOfRow column plan keys None e = ⊥
IsOfRow column plan keys (Some row) e =
    (e.begin ≡ int_max (pos row.from) plan.from) × (e.end ≡ int_min (pos row.to) plan.to)
    × (number_at keys (cell_at row.cells column) ≡ Some e.code)

-- the entry is of the side's row with its id
abbrev pub IsEntryOf : Side → JoinPlan → KeyNumbers → Entry → Type 0
IsEntryOf side plan keys e = IsOfRow side.column plan keys (slice_get (side_rows side) e.id) e

-- the ids of the entries
abbrev pub ids_in : List Entry → List ℕ
ids_in entries = map (λ (e : Entry). e.id) entries
