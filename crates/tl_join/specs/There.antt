-- The ids of the rows of one side that are there in a piece.
use Rattle.std.specs.Prelude.{ℕ, ◌+◌, ◌-◌, ◌*◌, Bool, List, take, drop, length, ◌++◌, Option, Some, None, if◌then◌else◌}
use Rattle.std.specs.List.{filter_map}
use Rattle.tl_types.specs.declared.events.Event.{Event}
use Rattle.tl_types.specs.Events.{ids_from, events_of, place_of}
use Rattle.tl_types.specs.Plain as plain
use Rattle.tl_bits.specs.Sets.{is_member, members}
use Rattle.tl_events.specs.Timeline.{binary_digits, ends_of}
use Rattle.tl_lanes.specs.Masks.{words_for}

-- the members of a set whose first row has a number
abbrev pub members_from : ℕ → List Bool → List ℕ
members_from n set = ids_from n (λ member. member) set

-- the row that the event opens, where it opens one that is kept
abbrev pub opened_row : List Bool → Event → Option ℕ
opened_row keep event =
    if event.opens
    then (if is_member keep event.row then Some event.row else None)
    else None

-- of the events from a place up to another, the kept rows that they open
abbrev pub opened_in : List Event → ℕ → ℕ → List Bool → List ℕ
opened_in events first last keep = filter_map (opened_row keep) (drop first (take last events))

-- the ids of the rows that are there: those of the start set, and the kept ones that begin at
-- versions behind `from` and before `to`
abbrev pub ids_there : List plain.Row → ℕ → ℕ → ℕ → List Bool → List Bool → List ℕ
ids_there rows last from to start keep =
    members start
    ++ opened_in (events_of rows last) (place_of rows from) (place_of rows (to - 1)) keep

-- what finding these ids may take
abbrev pub there_bound : List plain.Row → ℕ → ℕ → ℕ → List Bool → ℕ
there_bound rows last from to start =
    2 * (place_of rows (to - 1) - place_of rows from) + length (members start)
    + words_for (length start) + 2 * binary_digits (length (ends_of rows last) + 1)

-- what a side may take for the versions from `from` on and before `to`: five steps for each event
-- of a version behind `from`, four for each row of the start set, two for each begun 64 of rows,
-- and two searches
abbrev pub side_bound : List plain.Row → ℕ → ℕ → ℕ → List Bool → ℕ
side_bound rows last from to start =
    5 * (place_of rows (to - 1) - place_of rows from) + 4 * length (members start)
    + 2 * words_for (length start) + 2 * binary_digits (length (ends_of rows last) + 1) + 2
