-- The events of a list of rows, the place of a version among them, and the rows that a checkpoint
-- keeps.
use Rattle.std.specs.Prelude.{ℕ, zero, suc, Bool, true, false, ◌==◌, List, [], ◌++◌, length, map}
use Rattle.std.specs.List.{enumerate_from, filter}
use Rattle.tl_types.specs.declared.events.Event.{Event}
use Rattle.tl_types.specs.Plain as plain
use Rattle.tl_types.specs.History.{is_visible}

-- the numbers of the items that pass a test, where the first item has the number n
abbrev pub ids_from : {X : Type 0} → ℕ → (X → Bool) → List X → List ℕ
ids_from n test items = map (λ r. r.0) (filter (λ r. test r.1) (enumerate_from n items))

-- the ids of the rows that pass a test, ascending
abbrev pub ids_where : (plain.Row → Bool) → List plain.Row → List ℕ
ids_where test rows = ids_from 0 test rows

-- the row ends
abbrev pub invalidation : ℕ → Event
invalidation id = record { row = id; opens = false }

-- the row begins to stand
abbrev pub activation : ℕ → Event
activation id = record { row = id; opens = true }

-- the events of a version: the rows that end, then those that begin, each by ascending id
abbrev pub events_at : List plain.Row → ℕ → List Event
events_at rows version =
    map invalidation (ids_where (λ row. row.to == version) rows)
    ++ map activation (ids_where (λ row. row.from == version) rows)

-- the events of the versions from 1 up to one, in order
abbrev pub events_of : List plain.Row → ℕ → List Event
events_of rows zero = []
events_of rows (suc version) = events_of rows version ++ events_at rows (suc version)

-- the number of events of the versions up to one
abbrev pub place_of : List plain.Row → ℕ → ℕ
place_of rows version = length (events_of rows version)

-- the ids of the rows that a checkpoint at a version keeps: those that stand there
abbrev pub checkpoint_rows : List plain.Row → ℕ → List ℕ
checkpoint_rows rows version = ids_where (is_visible version) rows
