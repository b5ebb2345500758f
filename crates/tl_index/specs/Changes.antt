-- How the events of valid time of a table change from one version to a later one.
use Rattle.std.specs.Prelude.{◌≡◌, ◌≤◌, ℕ, Bool, not, List, [], Option, Some, None, slice_get, if◌then◌else◌}
use Rattle.std.specs.Bool.{beq}
use Rattle.tl_types.specs.Plain as plain
use Rattle.tl_types.specs.declared.events.Event.{Event}
use Rattle.tl_types.specs.declared.events.ValidEvent.{ValidEvent}
use Rattle.tl_types.specs.Checkpoints.{ends_of}
use Rattle.tl_types.specs.Events.{place_of}
use Rattle.tl_types.specs.History.{is_visible}
use Rattle.tl_ckpt.specs.Choices.{Choice, is_chosen}
use Rattle.tl_index.specs.declared.changes.Lapse.{Lapse}
use Rattle.tl_index.specs.Tables.{TableOf, rows_in}

-- the row stands at one of the two versions alone
abbrev pub differs : ℕ → ℕ → plain.Row → Bool
differs old new row = not (beq (is_visible old row) (is_visible new row))

-- both ends of the period of a row that stands at one of the two versions alone
abbrev pub change_of_row : ℕ → ℕ → ℕ → Option plain.Row → List ValidEvent
change_of_row old new id None = []
change_of_row old new id (Some row) = if differs old new row then ends_of id row.period else []

-- those of the row of an event
abbrev pub change_of : List plain.Row → ℕ → ℕ → Event → List ValidEvent
change_of rows old new event = change_of_row old new event.row (slice_get rows event.row)

-- those of the row of an event where it is chosen
abbrev pub chosen_change_of : Choice → List plain.Row → ℕ → ℕ → Event → List ValidEvent
chosen_change_of choice rows old new event =
    if is_chosen choice event.row then change_of rows old new event else []

-- the lapse is from a version of the table to one that is not before it, with the places at which
-- their events end
pub record IsLapseOf (table : TableOf) (lapse : Lapse) : Type 0 where
  pub ordered : lapse.old ≤ lapse.new
  pub within : lapse.new ≤ table.db.version
  pub from : lapse.from ≡ place_of (rows_in table) lapse.old
  pub to : lapse.to ≡ place_of (rows_in table) lapse.new
