-- What contracts see of a seat and of a value that is held.
use Rattle.std.specs.Prelude.{◌≡◌, ℕ, Bool, List, [], ◌∷◌, None}
use Rattle.std.specs.declared.option.Option.{Option}
use Rattle.atomic_table.specs.Seated.{TableId}
use Rattle.tl_types.specs.declared.commits.Entry.{Entry}
use Rattle.tl_head.specs.declared.views.Stage.{Stage}
use Rattle.tl_head.specs.declared.views.Stage.TheVariants.{Idle, Waits, Served}

-- a seat: the table of its door, whether it waits or is served, the entries that it has seen, and
-- whether it is the writer's
pub record SeatValue : Type 0 where
  pub table : TableId
  pub stage : Stage
  pub seen : List Entry
  pub writes : Bool

-- a held value: the table of its door, the ticket that it was taken with, and the value
pub record HeldValue (V : Type 0) : Type 0 where
  pub table : TableId
  pub ticket : ℕ
  pub value : V

-- the value is the one from the last turn of the seat: it is of the same table, was taken with the
-- ticket that the seat has, and stands for the list that the seat keeps
module _ {V : Type 0} (entries : V → List Entry) where
  pub record IsHeldBy (seat : SeatValue) (held : HeldValue V) : Type 0 where
    pub table : held.table ≡ seat.table
    pub turn : seat.stage ≡ Served held.ticket (entries held.value)

-- the slots of a seat at this stage: the seat that is served has the one slot, which is empty
abbrev pub FitsSlots : {V : Type 0} → Stage → List (ℕ × Option V) → Type 0
FitsSlots Idle slots = slots ≡ []
FitsSlots (Waits n) slots = slots ≡ []
FitsSlots (Served n list) slots = slots ≡ (0, None) ∷ []
