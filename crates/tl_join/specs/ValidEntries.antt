-- What rows and events of valid time have of a join's range.
use Rattle.std.specs.Prelude.{◌≡◌, ℕ, ℤ, Bool, true, ◌&&◌, int_lt, List, Option, Some, None, is_some, slice_get, if◌then◌else◌}
use Rattle.std.specs.Int.{int_min, int_max}
use Rattle.std.specs.List.{filter_map}
use Rattle.tl_types.specs.declared.events.ValidEvent.{ValidEvent}
use Rattle.tl_types.specs.History.{with_ids, is_visible, cell_at}
use Rattle.tl_types.specs.Plain as plain
use Rattle.tl_query.specs.declared.typed_queries.JoinPlan.{JoinPlan}
use Rattle.tl_query.specs.declared.typed_queries.TypedPred.{TypedPred}
use Rattle.tl_query.specs.Passing.{passes}
use Rattle.tl_bits.specs.Sets.{is_member}
use Rattle.tl_join.specs.declared.entries.Entry.{Entry}
use Rattle.tl_keys.specs.Keys.{KeyNumbers, KeepsNumbers, number_at}

-- a number, 0 where there is none
abbrev pub or_none : Option ℕ → ℕ
or_none None = 0
or_none (Some n) = n

-- the number that the key of a row has in a column, 0 where it has none
abbrev pub code_by : KeyNumbers → ℕ → plain.Row → ℕ
code_by keys column row = or_none (number_at keys (cell_at row.cells column))

-- the key of a row has a number
abbrev pub HasNumber : KeyNumbers → ℕ → Option plain.Row → Type 0
HasNumber keys column None = ⊥
HasNumber keys column (Some row) =
    number_at keys (cell_at row.cells column) ≡ Some (code_by keys column row)

-- a row with the number of its key between two moments, where there is one between them
abbrev pub entry_between : ℕ → ℕ → ℤ → ℤ → Option Entry
entry_between id code begin end =
    if int_lt begin end
    then Some (record { id = id; code = code; begin = begin; end = end })
    else None

-- what a period of a row and the plan's range have in common
abbrev pub entry_over : JoinPlan → ℕ → ℕ → Option plain.Period → Option Entry
entry_over plan id code None = None
entry_over plan id code (Some p) =
    entry_between id code (int_max p.from plan.from) (int_min p.to plan.to)

-- what the row with an id has of the plan's range
abbrev pub entry_of : JoinPlan → KeyNumbers → ℕ → ℕ → Option plain.Row → Option Entry
entry_of plan keys column id None = None
entry_of plan keys column id (Some row) =
    entry_over plan id (code_by keys column row) row.period

-- the event begins the period of a row in the set
abbrev pub begins_kept : List Bool → ValidEvent → Bool
begins_kept keep event = event.opens && is_member keep event.row

-- what the row of an event has of the plan's range, where the event begins its period and it is in
-- the set
abbrev pub entry_at : JoinPlan → List plain.Row → ℕ → List Bool → KeyNumbers → ValidEvent
    → Option Entry
entry_at plan rows column keep keys event =
    if begins_kept keep event
    then entry_of plan keys column event.row (slice_get rows event.row)
    else None

-- what a row has of the plan's range, where it stands at the version and passes
abbrev pub entry_in : JoinPlan → ℕ → TypedPred → ℕ → KeyNumbers → ℕ × plain.Row → Option Entry
entry_in plan version pred column keys r =
    if is_visible version r.1 && passes pred r.1
    then entry_over plan r.0 (code_by keys column r.1) r.1.period
    else None

-- the same of all rows, in order of id
abbrev pub entries_in : JoinPlan → ℕ → TypedPred → ℕ → KeyNumbers → List plain.Row → List Entry
entries_in plan version pred column keys rows =
    filter_map (entry_in plan version pred column keys) (with_ids rows)

-- where the event has an entry, the key of its row has a number
abbrev pub IsKnown : JoinPlan → List plain.Row → ℕ → List Bool → KeyNumbers → ValidEvent → Type 0
IsKnown plan rows column keep keys event =
    is_some (entry_at plan rows column keep keys event) ≡ true
    → HasNumber keys column (slice_get rows event.row)

-- whatever keys get numbers later, this is what the row with an id has of the plan's range, and its
-- key has a number where that is not empty
abbrev pub IsOfRow : JoinPlan → ℕ → KeyNumbers → ℕ → Option plain.Row → Option Entry → Type 0
IsOfRow plan column keys id row entry =
    (later : KeyNumbers) → KeepsNumbers keys later
    → (entry ≡ entry_of plan later column id row)
    × (is_some entry ≡ true → HasNumber later column row)
