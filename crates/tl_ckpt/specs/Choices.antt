-- Rows of a table that are chosen, and their events of valid time.
use Rattle.std.specs.Prelude.{ℕ, Bool, ◌||◌, List}
use Rattle.std.specs.List.{filter}
use Rattle.tl_types.specs.declared.events.ValidEvent.{ValidEvent}
use Rattle.tl_lanes.specs.Masks.{bit_of}

-- all rows, or those whose bits are set
pub record Choice : Type 0 where
  pub all : Bool
  pub mask : List ℕ

-- the row is chosen
abbrev pub is_chosen : Choice → ℕ → Bool
is_chosen choice row = choice.all || bit_of choice.mask row

-- of the events those of rows whose bits are set
abbrev pub masked : List ℕ → List ValidEvent → List ValidEvent
masked mask events = filter (λ event. bit_of mask event.row) events

-- of the events those of chosen rows
abbrev pub chosen : Choice → List ValidEvent → List ValidEvent
chosen choice events = filter (λ event. is_chosen choice event.row) events
