-- Groups of events: those of the rows that have one value in a column.
use Rattle.std.specs.Prelude.{◌≡◌, ℕ, ℤ, ◌+◌, ◌<◌, ◌≤◌, ◌==◌, Bool, true, false, not, List, [], ◌∷◌, ◌++◌, length, map, Option, Some, None, is_some, slice_get, if◌then◌else◌}
use Rattle.std.specs.List.{filter, flat_map, AllByRecursion}
use Rattle.std.specs.List.Sorted.{IsSortedBy}
use Rattle.tl_types.specs.declared.cells.Cell.{Cell}
use Rattle.tl_types.specs.declared.events.ValidEvent.{ValidEvent}
use Rattle.tl_types.specs.declared.runs.Run.{Run}
use Rattle.tl_types.specs.History.{database_of, rows_of, same_cell}
use Rattle.tl_types.specs.Plain as plain
use Rattle.tl_types.specs.Runs.{runs_of}
use Rattle.tl_query.specs.Aggregates.{in_group}
use Rattle.tl_query.specs.Ordered.{cell_before}
use Rattle.tl_query.specs.declared.ast.AggKind.{AggKind}
use Rattle.tl_query.specs.declared.typed_queries.AggPlan.{AggPlan}
use Rattle.tl_store.specs.Reading.{cell_of_row, columns_of}
use Rattle.tl_keys.specs.Keys.{KeyNumbers, number_in, number_at, AreApart}
use Rattle.tl_app.specs.declared.keyed.KeyColumn.{KeyColumn}
use Rattle.tl_app.specs.declared.keyed.KeyGroup.{KeyGroup}
use Rattle.tl_app.specs.Opening.{open_rows, up_to}
use Rattle.tl_app.specs.Scans.{open_value}
use Rattle.tl_running.specs.Telling.{has_rows}

-- THE EVENTS OF A VALUE

-- the cell that the event's row has in a column
abbrev pub key_of : List plain.Row → ℕ → ValidEvent → Option Cell
key_of rows column event = cell_of_row column (slice_get rows event.row)

-- there is a cell, and it is this value
abbrev pub is_value : Cell → Option Cell → Bool
is_value value None = false
is_value value (Some cell) = same_cell value cell

-- the row with an id has the value in a column
abbrev pub has_cell : List plain.Row → ℕ → Cell → ℕ → Bool
has_cell rows column value id = is_value value (cell_of_row column (slice_get rows id))

-- the events of the rows that have the value in a column
abbrev pub group_of : List plain.Row → ℕ → Cell → List ValidEvent → List ValidEvent
group_of rows column value events = filter (λ event. has_cell rows column value event.row) events

-- the rows of the table that has the column
abbrev pub column_rows : KeyColumn → List plain.Row
column_rows by = rows_of (database_of by.store.now) by.table

-- the column is one of its table's
abbrev pub HasColumn : KeyColumn → Type 0
HasColumn by = by.column < length (columns_of (database_of by.store.now) by.table)

-- GROUPS

-- the first group's value comes before the second's
abbrev pub key_before : KeyGroup → KeyGroup → Bool
key_before first second = cell_before first.key second.key

-- the group is that of the value
abbrev pub has_key : Cell → KeyGroup → Bool
has_key key group = same_cell key group.key

-- there are some
abbrev pub are_some : List ValidEvent → Bool
are_some [] = false
are_some (event ∷ events) = true

-- the group has an event
abbrev pub has_events : KeyGroup → Bool
has_events group = are_some group.events.items

-- the group's value, which is that of its first event
abbrev pub value_with : KeyGroup → Cell → Cell
value_with group key = if has_events group then group.key else key

-- the groups, and one without events behind them
pub record HasOneMore (groups more : List KeyGroup) : Type 0 where
  pub none : KeyGroup
  pub empty : none.events.items ≡ []
  pub are : more ≡ groups ++ none ∷ []

-- how many events the groups have
abbrev pub event_count : List KeyGroup → ℕ
event_count [] = 0
event_count (group ∷ groups) = length group.events.items + event_count groups

-- EVENTS DEALT BY NUMBER

-- there is a number, and it is this one
abbrev pub is_number : ℕ → Option ℕ → Bool
is_number n None = false
is_number n (Some m) = m == n

-- the cell of the event's row has this number
abbrev pub has_number : KeyNumbers → List plain.Row → ℕ → ℕ → ValidEvent → Bool
has_number keys rows column n event = is_number n (number_at keys (key_of rows column event))

-- each group has the events of the rows whose cell has the group's place as its number, in their
-- order, and that cell as its value
pub record AreDealt (rows : List plain.Row) (column : ℕ) (keys : KeyNumbers)
    (groups : List KeyGroup) (done : List ValidEvent) : Type 0 where
  pub apart : AreApart keys
  pub count : keys.count ≤ length groups
  pub few : length groups ≤ length done
  pub numbered : AllByRecursion
      (λ event. is_some (number_at keys (key_of rows column event)) ≡ true) done
  pub events : (n : ℕ) (g : KeyGroup) → slice_get groups n ≡ Some g
      → g.events.items ≡ filter (has_number keys rows column n) done
  pub key : (n : ℕ) (g : KeyGroup) → slice_get groups n ≡ Some g → has_events g ≡ true
      → number_in keys g.key ≡ Some n

-- so it is for some numbers
pub record IsDealt (rows : List plain.Row) (column : ℕ) (groups : List KeyGroup)
    (events : List ValidEvent) : Type 0 where
  pub keys : KeyNumbers
  pub dealt : AreDealt rows column keys groups events

-- the groups are in order of their values, no two have the same, and those of each value, one at
-- most, have its events in their order
pub record AreGroupsOf (rows : List plain.Row) (column : ℕ) (events : List ValidEvent)
    (groups : List KeyGroup) : Type 0 where
  pub ascend : IsSortedBy key_before groups
  pub alone : (value : Cell) → length (filter (has_key value) groups) ≤ 1
  pub found : (value : Cell) → flat_map (λ group. group.events.items)
      (filter (has_key value) groups) ≡ group_of rows column value events

-- RUNS

-- of the group of a value the runs that have a row
abbrev pub runs_with : AggKind → Cell → List Run → List Run
runs_with kind value runs = map (in_group value) (filter (λ run. has_rows kind run.value) runs)

-- the runs of the group of a value, without those that have no row
abbrev pub grouped_runs : List plain.Row → AggPlan → ℤ → ℤ → Cell → List ValidEvent → List Run
grouped_runs rows plan from to value events =
    map (in_group value)
    (filter (λ run. not (length (open_rows rows (up_to events run.from)) == 0))
    (runs_of (open_value rows plan events) from to))

-- the runs of each of these groups, one group behind the other
abbrev pub runs_of_groups : List plain.Row → AggPlan → ℤ → ℤ → List KeyGroup → List Run
runs_of_groups rows plan from to groups =
    flat_map (λ group. grouped_runs rows plan from to group.key group.events.items) groups
