-- What is kept of a plan, and the rows for which it stands.
use Rattle.std.specs.Prelude.{◌≡◌, ℕ, ℤ, true, List, [], ◌∷◌, Option, None, Some, is_some}
use Rattle.tl_types.specs.declared.cells.Cell.{Cell}
use Rattle.tl_types.specs.History.{cell_at}
use Rattle.tl_types.specs.Plain as plain
use Rattle.tl_query.specs.declared.ast.AggKind.{AggKind}
use Rattle.tl_running.specs.Standing.{Kept, StandsFor, Suits, HasRoom, CanLeave, Enters, IsShort, number_in}
use Rattle.tl_watch.specs.declared.plans.WatchPlan.{WatchPlan}
use Rattle.tl_watch.specs.Groups.{GroupsStand, HasRoomAt, CanLeaveAt, EntersGroup, LeavesGroup, group_of}

-- what is kept of all rows, and of each group
pub record State : Type 0 where
  pub all : Kept
  pub groups : List (Cell × Kept)

-- what is kept is that of these rows
abbrev pub StandsAs : AggKind → Option ℕ → Option ℕ → State → List plain.Row → Type 0
StandsAs kind column None state rows = (state.all.kind ≡ kind) × StandsFor state.all column rows
StandsAs kind column (Some by) state rows = GroupsStand state.groups kind column by rows

-- what is kept of a plan is that of these rows, each of which has a number where the plan asks for
-- it
pub record Stands (plan : WatchPlan) (state : State) (rows : List plain.Row) : Type 0 where
  pub kept : StandsAs plan.kind plan.column plan.by state rows
  pub suits : Suits plan.kind plan.column rows

-- the cell that separates the row, where a column does
abbrev pub IsKey : Option ℕ → plain.Row → Option Cell → Type 0
IsKey None row key = key ≡ None
IsKey (Some by) row key = (is_some key ≡ true) × (cell_at row.cells by ≡ key)

-- a row has this number and this key for a plan
pub record TellsRow (plan : WatchPlan) (row : plain.Row) (number : ℤ) (key : Option Cell)
    : Type 0 where
  pub number_is : number_in plan.column row ≡ number
  pub short : IsShort number
  pub suits : Suits plan.kind plan.column (row ∷ [])
  pub key_is : IsKey plan.by row key

-- there is room for one row more of this key
abbrev pub CanCome : Option Cell → State → Type 0
CanCome None state = HasRoom state.all
CanCome (Some value) state = HasRoomAt (group_of state.groups value)

-- a row of this key and number can be taken out
abbrev pub CanGo : Option Cell → State → ℤ → Type 0
CanGo None state number = CanLeave state.all number
CanGo (Some value) state number = CanLeaveAt (group_of state.groups value) number

-- a row of this key and number comes
abbrev pub Comes : AggKind → Option Cell → State → State → ℤ → Type 0
Comes kind None old new number = Enters old.all new.all number
Comes kind (Some value) old new number = EntersGroup kind value old.groups new.groups number

-- a row of this key and number goes
abbrev pub Goes : Option Cell → State → State → ℤ → Type 0
Goes None old new number = Enters new.all old.all number
Goes (Some value) old new number = LeavesGroup value old.groups new.groups number
