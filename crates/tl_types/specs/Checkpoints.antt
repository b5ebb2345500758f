-- The checkpoint of a table at a version: what a scan that begins there has to know of it.
use Rattle.std.specs.Prelude.{◌≡◌, ℕ, Bool, true, false, ◌&&◌, ◌||◌, not, nat_le, nat_lt, int_lt, List, [], ◌∷◌, length, Option, Some, None, slice_get, if◌then◌else◌}
use Rattle.std.specs.List.{filter, flat_map, fold}
use Rattle.std.specs.Bool.{beq}
use Rattle.std.specs.Ordering.{int_eq}
use Rattle.tl_types.specs.declared.events.ValidEvent.{ValidEvent}
use Rattle.tl_types.specs.Plain as plain
use Rattle.tl_types.specs.History.{with_ids, is_visible}
use Rattle.tl_types.specs.Events.{ids_where, place_of, checkpoint_rows}

-- a checkpoint: the number of its table, its version, the number of events up to it, how many rows
-- had begun by then, the ids of those that stand there, and the events of their valid periods
pub record Checkpoint : Type 0 where
  pub table : ℕ
  pub version : ℕ
  pub place : ℕ
  pub begun : ℕ
  pub rows : List ℕ
  pub valid_events : List ValidEvent

-- VALID-TIME EVENTS

-- of two events of one time, the first comes earlier: ends before beginnings, and then by id
abbrev pub comes_first : ValidEvent → ValidEvent → Bool
comes_first a b =
    (not a.opens && b.opens) || (beq a.opens b.opens && nat_lt a.row b.row)

-- the first comes earlier: by time, and at one time ends before beginnings, and then by id
abbrev pub comes_before : ValidEvent → ValidEvent → Bool
comes_before a b = int_lt a.time b.time || (int_eq a.time b.time && comes_first a b)

-- the ordered events with one more, at its place
abbrev pub inserted : ValidEvent → List ValidEvent → List ValidEvent
inserted event [] = event ∷ []
inserted event (first ∷ others) =
    if comes_before first event then first ∷ inserted event others else event ∷ first ∷ others

-- the events in order
abbrev pub in_order : List ValidEvent → List ValidEvent
in_order events = fold (λ ordered event. inserted event ordered) [] events

-- both ends of the period of a row, none where it has no period
abbrev pub ends_of : ℕ → Option plain.Period → List ValidEvent
ends_of id None = []
ends_of id (Some period) =
    record { time = period.from; opens = true; row = id }
    ∷ record { time = period.to; opens = false; row = id } ∷ []

-- the ends of the periods of rows that are given with their ids
abbrev pub ends_of_rows : List (ℕ × plain.Row) → List ValidEvent
ends_of_rows rows = flat_map (λ r. ends_of r.0 r.1.period) rows

-- both ends of the periods of the rows that stand at the version, in order
abbrev pub valid_events_in : List plain.Row → ℕ → List ValidEvent
valid_events_in rows version =
    in_order (ends_of_rows (filter (λ r. is_visible version r.1) (with_ids rows)))

-- those of a table, none where its rows have no periods
abbrev pub valid_events_of : plain.Table → ℕ → List ValidEvent
valid_events_of table version =
    if table.schema.valid then valid_events_in table.rows version else []

-- the events are those of the rows at some version
pub record AreEventsOf (rows : List plain.Row) (events : List ValidEvent) : Type 0 where
  pub version : ℕ
  pub are : events ≡ valid_events_in rows version

-- CHECKPOINTS

-- the checkpoint of a table with this number at the version, of no rows where there is no table
abbrev pub checkpoint_of : ℕ → ℕ → Option plain.Table → Checkpoint
checkpoint_of number version None =
    record {
      table = number;
      version = version;
      place = 0;
      begun = 0;
      rows = [];
      valid_events = [];
    }
checkpoint_of number version (Some table) =
    record {
      table = number;
      version = version;
      place = place_of table.rows version;
      begun = length (ids_where (λ row. nat_le row.from version) table.rows);
      rows = checkpoint_rows table.rows version;
      valid_events = valid_events_of table version;
    }

-- the checkpoint of the table with this number at the version, read off the tables of a database
abbrev pub checkpoint_at : plain.Database → ℕ → ℕ → Checkpoint
checkpoint_at db table version = checkpoint_of table version (slice_get db.tables table)
