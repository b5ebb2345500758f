-- What is gathered of rows that come, while none goes.
use Rattle.std.specs.Prelude.{◌≡◌, ℕ, ℤ, true, List, [], Option, None, Some, slice_get, slice_set, if◌then◌else◌}
use Rattle.tl_types.specs.declared.cells.Cell.{Cell}
use Rattle.tl_types.specs.History.{same_cell}
use Rattle.tl_types.specs.Plain as plain
use Rattle.tl_bits.specs.Bags.{times}
use Rattle.tl_query.specs.declared.ast.AggKind.{AggKind}
use Rattle.tl_running.specs.Heaps.{left_of}
use Rattle.tl_running.specs.Standing.{Kept, is_ordered, HasRoom, Enters}
use Rattle.tl_index.specs.Tables.{TableOf, rows_in}
use Rattle.tl_keys.specs.Keys.{KeyNumbers}
use Rattle.tl_keys.specs.Numbered.{AreNumbered}
use Rattle.tl_agg.specs.Columns.{AreNumbers, AreKeys}
use Rattle.tl_watch.specs.declared.plans.WatchPlan.{WatchPlan}
use Rattle.tl_watch.specs.Groups.{group_of, IsOne}
use Rattle.tl_watch.specs.Reading.{RowAt}
use Rattle.tl_watch.specs.States.{State, Stands, Comes}
use Rattle.tl_watch.specs.Follows.{TakesRow}

-- THE ROWS

-- the rows of a table, with the column whose numbers are asked for and the one that separates them
pub record RowsOf : Type 0 where
  pub table : TableOf
  pub column : Option ℕ
  pub by : Option ℕ

-- these are the numbers of both columns, where they are read of them
pub record ReadsColumns (of : RowsOf) (numbers keys : Option (List ℤ)) : Type 0 where
  pub numbers_are : AreNumbers (rows_in of.table) of.column numbers
  pub keys_are : AreKeys (rows_in of.table) of.by keys

-- the row with this id
abbrev pub row_at : RowsOf → ℕ → RowAt
row_at of id = record { db = of.table.db; table = of.table.number; id = id }

-- the rows are those of the plan's table, with the plan's columns
pub record AreOfPlan (plan : WatchPlan) (of : RowsOf) : Type 0 where
  pub table : of.table.number ≡ plan.table
  pub column : of.column ≡ plan.column
  pub by : of.by ≡ plan.by

-- NUMBERS

-- what is kept of numbers that were counted, added and put into a list
abbrev pub gathered_of : AggKind → ℕ → ℤ → List ℤ → Kept
gathered_of kind count sum numbers =
    record { kind = kind; count = count; sum = sum; bag = left_of numbers [] }

-- what is kept is the same, its numbers in another form
pub record KeepsAs (old new : Kept) : Type 0 where
  pub kind : new.kind ≡ old.kind
  pub count : new.count ≡ old.count
  pub sum : new.sum ≡ old.sum
  pub bag : is_ordered old.kind ≡ true → (v : ℤ) → times new.bag v ≡ times old.bag v

-- so it is with two groups, of which both are found or none is
abbrev pub KeepsAsAt : Option Kept → Option Kept → Type 0
KeepsAsAt None None = Unit {0}
KeepsAsAt None (Some new) = ⊥
KeepsAsAt (Some old) None = ⊥
KeepsAsAt (Some old) (Some new) = KeepsAs old new

-- GROUPS BY THE NUMBERS OF THEIR VALUES

-- what is gathered for a kind, with the numbers of the values that separate the rows
pub record GatheringOf : Type 0 where
  pub kind : AggKind
  pub state : State
  pub keys : KeyNumbers

-- a value has this number and a group: the one that it had, or one of no rows
pub record HasPlace (old new : GatheringOf) (value : Cell) (n : ℕ) : Type 0 where
  pub kept : Kept
  pub kind : new.kind ≡ old.kind
  pub there : slice_get new.state.groups n ≡ Some (value, kept)
  pub one : IsOne (group_of old.state.groups value) old.kind kept
  pub numbered : AreNumbered new.keys new.state.groups
  pub others : (x : Cell) → group_of new.state.groups x
      ≡ (if same_cell x value then Some kept else group_of old.state.groups x)

-- a number can come into the group with this number
pub record CanEnterAt (groups : List (Cell × Kept)) (n : ℕ) : Type 0 where
  pub value : Cell
  pub kept : Kept
  pub there : slice_get groups n ≡ Some (value, kept)
  pub room : HasRoom kept

-- a number comes into the group with this number
pub record EntersAt (old new : List (Cell × Kept)) (n : ℕ) (number : ℤ) : Type 0 where
  pub value : Cell
  pub was : Kept
  pub now : Kept
  pub there : slice_get old n ≡ Some (value, was)
  pub puts : new ≡ slice_set old n (value, now)
  pub enters : Enters was now number

-- ROWS THAT COME

-- a row of this key and number comes
pub record Gathers (key : Option Cell) (old new : GatheringOf) (number : ℤ) : Type 0 where
  pub kind : new.kind ≡ old.kind
  pub numbered : AreNumbered new.keys new.state.groups
  pub comes : Comes old.kind key old.state new.state number

-- this row comes, where what was gathered stood for rows
pub record GathersRow (plan : WatchPlan) (old new : GatheringOf) (at : RowAt) : Type 0 where
  pub kind : new.kind ≡ old.kind
  pub numbered : AreNumbered new.keys new.state.groups
  pub takes : TakesRow plan old.state new.state at

-- what is gathered for a plan is that of these rows
pub record IsGathering (plan : WatchPlan) (gathering : GatheringOf) (rows : List plain.Row)
    : Type 0 where
  pub kind : gathering.kind ≡ plan.kind
  pub numbered : AreNumbered gathering.keys gathering.state.groups
  pub stands : Stands plan gathering.state rows
