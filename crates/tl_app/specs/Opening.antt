-- Which rows are open after events of valid time: those whose period has begun and not ended.
use Rattle.std.specs.Prelude.{◌≡◌, ℕ, ℤ, ◌<◌, ◌≤◌, ◌<ℤ◌, ◌≤ℤ◌, ◌==◌, Bool, true, false, ◌&&◌, not, int_le, List, [], ◌∷◌, ◌++◌, length, map, take, Option, Some, None, slice_get, slice_index_or}
use Rattle.std.specs.Bool.{beq}
use Rattle.std.specs.List.{filter, list_any}
use Rattle.std.specs.Ordering.{int_eq}
use Rattle.tl_types.specs.declared.events.ValidEvent.{ValidEvent}
use Rattle.tl_types.specs.History.{with_ids}
use Rattle.tl_types.specs.Plain as plain

-- two events are the same
abbrev pub same_event : ValidEvent → ValidEvent → Bool
same_event x y = int_eq x.time y.time && (beq x.opens y.opens && (x.row == y.row))

-- the event is among them
abbrev pub has : List ValidEvent → ValidEvent → Bool
has events z = list_any (λ y. same_event y z) events

-- the beginning of the period of a row
abbrev pub begin_of : ℕ → plain.Period → ValidEvent
begin_of id period = record { time = period.from; opens = true; row = id }

-- the end of the period of a row
abbrev pub end_of : ℕ → plain.Period → ValidEvent
end_of id period = record { time = period.to; opens = false; row = id }

-- the period of the row has begun, and has not ended
abbrev pub is_open : List ValidEvent → ℕ → Option plain.Period → Bool
is_open done id None = false
is_open done id (Some period) = has done (begin_of id period) && not (has done (end_of id period))

-- the rows that are open after these events, in order of id
abbrev pub open_rows : List plain.Row → List ValidEvent → List plain.Row
open_rows rows done = map (λ r. r.1) (filter (λ r. is_open done r.0 r.1.period) (with_ids rows))

-- the events up to a moment
abbrev pub up_to : List ValidEvent → ℤ → List ValidEvent
up_to events moment = filter (λ event. int_le event.time moment) events

-- no event is earlier than one before it
abbrev pub InTime : List ValidEvent → Type 0
InTime events =
    (j k : ℕ) (d : ValidEvent) → j ≤ k → k < length events
    → (slice_index_or events j d).time ≤ℤ (slice_index_or events k d).time

-- behind these events the event begins a period of its row that is not open, or ends one that is
pub record Turns (done : List ValidEvent) (event : ValidEvent) (period : Option plain.Period)
    : Type 0 where
  pub before : is_open done event.row period ≡ not event.opens
  pub after : is_open (done ++ event ∷ []) event.row period ≡ event.opens

-- the events come in order of time, each is of a row, and begins its period where that is not open,
-- or ends it where it is, unless the period is empty
pub record Alternate (rows : List plain.Row) (events : List ValidEvent) : Type 0 where
  pub there : (i : ℕ) (e : ValidEvent) → slice_get events i ≡ Some e → e.row < length rows
  pub turns : (i : ℕ) (e : ValidEvent) (r : plain.Row) (p : plain.Period)
      → slice_get events i ≡ Some e → slice_get rows e.row ≡ Some r → r.period ≡ Some p
      → p.from <ℤ p.to → Turns (take i events) e r.period
  pub order : InTime events
