-- The set of the rows that stand at a version, and what events make of it. A set is the list that
-- says of each row, from id 0 on, whether the row is in it.
use Rattle.std.specs.Prelude.{◌≡◌, ◌<◌, ℕ, Bool, not, List, [], ◌∷◌, map, drop, fold, Some, slice_get, slice_set}
use Rattle.tl_types.specs.declared.events.Event.{Event}
use Rattle.tl_types.specs.Plain as plain
use Rattle.tl_types.specs.History.{is_visible}
use Rattle.tl_types.specs.Events.{events_at, events_of, place_of}

-- the set of the rows that stand at the version
abbrev pub standing : List plain.Row → ℕ → List Bool
standing rows version = map (is_visible version) rows

-- the set after an event, by which its row is in it or is not
abbrev pub after_event : List Bool → Event → List Bool
after_event set event = slice_set set event.row event.opens

-- the set after events, one by one
abbrev pub after_events : List Bool → List Event → List Bool
after_events set events = fold after_event set events

-- each event is of a row of the set, and changes it: a row that begins was not in it, and one that
-- ends was
abbrev pub ChangesEach : List Bool → List Event → Type 0
ChangesEach set [] = Unit {0}
ChangesEach set (event ∷ events) =
    (slice_get set event.row ≡ Some (not event.opens)) × ChangesEach (after_event set event) events

-- the events behind the place of a version and up to that of a later one
abbrev pub events_between : List plain.Row → ℕ → ℕ → List Event
events_between rows from to = drop (place_of rows from) (events_of rows to)

-- no version after the first and before the second has an event
abbrev pub IsQuiet : List plain.Row → ℕ → ℕ → Type 0
IsQuiet rows from to = (version : ℕ) → from < version → version < to → events_at rows version ≡ []
