-- The definitions on a table of four rows: 0 from version 2 to 3, 1 from 2 to 4, 2 from 3 on, 3 from 5 on.
use Rattle.std.proofs.Common.{◌≡◌, ℕ, List, [], ◌∷◌, ◌+◌, length, refl}
use Rattle.std.specs.Prelude.{None}
use Rattle.tl_types.specs.declared.events.Event.{Event}
use Rattle.tl_types.specs.Plain as plain
use Rattle.tl_types.specs.History.{open_end}
use Rattle.tl_types.specs.Events.{invalidation, activation, events_of, place_of, checkpoint_rows}
use Rattle.tl_events.specs.declared.version_maps.VersionEnd.{VersionEnd}
use Rattle.tl_events.specs.Timeline.{version_events, ends_of, end_of, binary_digits}

abbrev row : ℕ → ℕ → plain.Row
row from to = record { cells = []; period = None; from = from; to = to }

abbrev rows : List plain.Row
rows = row 2 3 ∷ row 2 4 ∷ row 3 open_end ∷ row 5 open_end ∷ []

abbrev listed : List Event
listed = activation 0 ∷ activation 1 ∷ invalidation 0 ∷ activation 2 ∷ invalidation 1 ∷ activation 3 ∷ []

abbrev entry : ℕ → ℕ → VersionEnd
entry version end = record { version = version; end = end }

abbrev entries : List VersionEnd
entries = entry 2 2 ∷ entry 3 4 ∷ entry 4 5 ∷ entry 5 6 ∷ []

events_of_rows : events_of rows 5 ≡ listed
events_of_rows = refl

events_of_version : version_events (0 ∷ []) 2 1 ≡ invalidation 0 ∷ activation 2 ∷ []
events_of_version = refl

ends_of_rows : ends_of rows 5 ≡ entries
ends_of_rows = refl

place_of_three : place_of rows 3 ≡ 4
place_of_three = refl

rows_at_three : checkpoint_rows rows 3 ≡ 1 ∷ 2 ∷ []
rows_at_three = refl

end_before_all : end_of entries 1 ≡ 0
end_before_all = refl

end_at_an_entry : end_of entries 3 ≡ 4
end_at_an_entry = refl

end_after_all : end_of entries 9 ≡ 6
end_after_all = refl

digits_of_five : binary_digits (length entries + 1) ≡ 3
digits_of_five = refl
