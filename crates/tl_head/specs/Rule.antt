-- The rule of a door: what holds of its words, its slot and its seats between any two steps.
use Rattle.std.specs.Prelude.{◌≡◌, ℕ, ◌^◌, ◌<◌, ◌≤◌, Bool, true, false, List, [], ◌∷◌, length, Some}
use Rattle.std.specs.declared.option.Option.{Option}
use mathlib.Core.Option.{none, some, Option as Homes}
use mathlib.Core.List.{IsPrefix}
use lib.ListN.{get_elem?}
use Rattle.atomic_table.specs.Table.{State}
use Rattle.tl_types.specs.declared.commits.Entry.{Entry}
use Rattle.tl_head.specs.declared.views.View.{View}
use Rattle.tl_head.specs.declared.views.Stage.{Stage}
use Rattle.tl_head.specs.declared.views.Stage.TheVariants.{Idle, Waits, Served}
use Rattle.tl_head.specs.Views.{ticket_of}

-- what a table of a door stands for
pub record DoorState : Type 0 where
  -- the next ticket to be drawn
  pub ticket : ℕ
  -- the ticket that is served
  pub serving : ℕ
  -- the seat that drew a ticket
  pub owner : ℕ → ℕ
  -- the entries that are written
  pub written : List Entry
  -- whether a seat has the value
  pub out : Bool

-- the number of the writer's seat
abbrev pub writer : ℕ
writer = 0

-- a seat waits with the ticket n
pub record IsWaiting (d : DoorState) (seat n : ℕ) : Type 0 where
  -- the ticket is not passed yet
  pub to_come : d.serving ≤ n
  -- it was drawn
  pub below : n < d.ticket
  -- this seat drew it
  pub own : d.owner n ≡ seat
  -- the value is at home for it once it is served
  pub home : n ≡ d.serving → d.out ≡ false

-- a seat has the turn with the ticket n, and took a value that stood for this list
pub record IsServed (d : DoorState) (seat n : ℕ) (list : List Entry) : Type 0 where
  -- its ticket is the one that is served
  pub turn : n ≡ d.serving
  -- it was drawn
  pub below : n < d.ticket
  -- this seat drew it
  pub own : d.owner n ≡ seat
  -- the list is what is written
  pub all : list ≡ d.written
  -- the value is not at home
  pub away : d.out ≡ true

-- what is so of a seat at this stage
abbrev pub FitsStage : DoorState → ℕ → Stage → Type 0
FitsStage d seat Idle = Unit {0}
FitsStage d seat (Waits n) = IsWaiting d seat n
FitsStage d seat (Served n list) = IsServed d seat n list

-- what a seat knows is so
pub record FitsSeat (d : DoorState) (seat : ℕ) (v : View) : Type 0 where
  pub stage : FitsStage d seat v.stage
  -- what it has seen is a prefix of what is written
  pub seen : IsPrefix v.seen d.written
  -- what a seat had seen that it took in is a prefix too
  pub told : IsPrefix v.told d.written
  -- only the writer's seat writes, and it has seen all that is written
  pub writes : v.writes ≡ true → (seat ≡ writer) × (v.seen ≡ d.written)

-- the view of this seat has the ticket n
abbrev pub HasTicket : List View → ℕ → ℕ → Type 0
HasTicket views seat n =
    (v : View) × (get_elem? views seat ≡ some v) × (ticket_of v.stage ≡ some n)

module _ {V : Type 0} (entries : V → List Entry) where
  -- the one slot: empty of a value that is out; while it is at home it stands for what is written
  abbrev pub FitsSlot : Bool → List Entry → List (Homes (Option V)) → Type 0
  FitsSlot true written homes = homes ≡ none ∷ []
  FitsSlot false written homes = (x : V) × (homes ≡ some (Some x) ∷ []) × (entries x ≡ written)

  -- the table stands for d
  pub record FitsTable (d : DoorState) (s : State (Option V) View) : Type 0 where
    -- the words: ticket, serving, and history, which is the length of what is written
    pub words : s.words ≡ d.ticket ∷ d.serving ∷ length d.written ∷ []
    -- the tickets from serving up to ticket are out
    pub order : d.serving ≤ d.ticket
    -- ticket never wraps, nor does serving, which is not above it
    pub no_wrap : d.ticket < 2 ^ 64
    -- history never wraps
    pub few : length d.written < 2 ^ 32
    -- the slot
    pub slot : FitsSlot d.out d.written s.homes
    -- a value that is out is out with a ticket
    pub taken : d.out ≡ true → d.serving < d.ticket
    -- each ticket that is out is in the view of the seat that drew it, and so in no other
    pub each_ticket : (n : ℕ) → d.serving ≤ n → n < d.ticket → HasTicket s.views (d.owner n) n
    -- what each seat knows is so
    pub each_seat : (j : ℕ) (v : View) → get_elem? s.views j ≡ some v → FitsSeat d j v

  -- the rule of a door: its table stands for something
  abbrev pub KeepsTurns : State (Option V) View → Type 0
  KeepsTurns s = (d : DoorState) × FitsTable d s
