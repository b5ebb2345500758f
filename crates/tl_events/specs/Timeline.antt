-- The events of a version, and the places at which versions end.
use Rattle.std.specs.Prelude.{◌≡◌, ℕ, zero, suc, ◌-◌, ◌≤◌, ◌<◌, nat_le, ◌==◌, List, [], ◌∷◌, ◌++◌, length, map, Some, slice_get, fold, if◌then◌else◌}
use Rattle.std.specs.List.{range_with_len}
use Rattle.std.specs.Int.Digits.{digits_of}
use Rattle.tl_types.specs.declared.events.Event.{Event}
use Rattle.tl_types.specs.Plain as plain
use Rattle.tl_types.specs.Events.{invalidation, activation, ids_where, events_at, place_of}
use Rattle.tl_types.specs.Walks.{IsQuiet}
use Rattle.tl_events.specs.declared.version_maps.VersionEnd.{VersionEnd}

-- the events of a version at which these rows end and so many rows from `first` on begin
abbrev pub version_events : List ℕ → ℕ → ℕ → List Event
version_events closes first opens =
    map invalidation closes ++ map activation (range_with_len first opens)

-- of these rows, those that end at the version are `closes`, and those that begin there are `opens`
-- many from `first` on
pub record AreEventsAt (rows : List plain.Row) (version : ℕ) (closes : List ℕ) (first opens : ℕ)
    : Type 0 where
  pub ends : closes ≡ ids_where (λ row. row.to == version) rows
  pub begins : range_with_len first opens ≡ ids_where (λ row. row.from == version) rows

-- the end of the last entry that is not after the version, 0 where there is none
abbrev pub end_of : List VersionEnd → ℕ → ℕ
end_of entries version =
    fold (λ end entry. if nat_le entry.version version then entry.end else end) 0 entries

-- the version and the end are greater than those of the last entry
abbrev pub IsAfter : List VersionEnd → ℕ → ℕ → Type 0
IsAfter entries version end =
    (last : VersionEnd) → slice_get entries (length entries - 1) ≡ Some last
    → (last.version < version) × (last.end < end)

-- each version is greater than those before it
abbrev pub Ascend : List VersionEnd → Type 0
Ascend entries =
    (i j : ℕ) (before after : VersionEnd) → i < j → slice_get entries i ≡ Some before
    → slice_get entries j ≡ Some after → before.version < after.version

-- the first entries, so many, are not after the version, and the others are
pub record IsSplit (entries : List VersionEnd) (version count : ℕ) : Type 0 where
  pub within : count ≤ length entries
  pub front : (i : ℕ) (entry : VersionEnd) → i < count → slice_get entries i ≡ Some entry
      → entry.version ≤ version
  pub back : (i : ℕ) (entry : VersionEnd) → count ≤ i → slice_get entries i ≡ Some entry
      → version < entry.version

-- how many binary digits a number has, 0 for 0
abbrev pub binary_digits : ℕ → ℕ
binary_digits n = length (digits_of 2 n)

-- the versions from 1 up to one that have events, with the place at which these end
abbrev pub ends_of : List plain.Row → ℕ → List VersionEnd
ends_of rows zero = []
ends_of rows (suc version) =
    ends_of rows version ++ (if length (events_at rows (suc version)) == 0 then [] else record
    { version = suc version; end = place_of rows (suc version) } ∷ [])

-- the entries are those of the versions behind one and up to a last one that have events: each is
-- of the next version that has some, with its place
abbrev pub Follow : List plain.Row → ℕ → ℕ → List VersionEnd → Type 0
Follow rows last at [] = IsQuiet rows at (suc last)
Follow rows last at (entry ∷ entries) =
    (at < entry.version) × (entry.version ≤ last) × IsQuiet rows at entry.version
    × (entry.end ≡ place_of rows entry.version) × (0 < length (events_at rows entry.version))
    × Follow rows last entry.version entries
