-- The rows that a change closes, with their keys.
use Rattle.std.specs.Prelude.{ℕ, ℤ, ◌<◌, Bool, false, ◌&&◌, ◌==◌, List, All, length, Option, Some, None, slice_get}
use Rattle.std.specs.List.{list_any}
use Rattle.tl_types.specs.declared.cells.Cell.{Cell}
use Rattle.tl_types.specs.declared.cells.Cell.TheVariants as cell
use Rattle.tl_types.specs.History.{has_id, same_cell}
use Rattle.tl_batch.specs.declared.following.KeyedRow.{KeyedRow}
use Rattle.tl_batch.specs.declared.following.ClosedKeys.{ClosedKeys}
use Rattle.tl_batch.specs.declared.following.ClosedKeys.TheVariants as keys

-- one of the rows has the key and the id
abbrev pub has_keyed : List KeyedRow → Cell → ℕ → Bool
has_keyed rows key n = list_any (λ r. same_cell key r.key && (n == r.id)) rows

-- the key is this number
abbrev pub is_number : Option ℤ → Cell → Bool
is_number None key = false
is_number (Some number) key = same_cell (cell.Int number) key

-- the row with this id is closed, and the key is its number
abbrev pub closes_number : List ℕ → List ℤ → Cell → ℕ → Bool
closes_number closes numbers key n = has_id closes n && is_number (slice_get numbers n) key

-- the row with this id is closed and has the key, where these rows are closed
abbrev pub has_closed : ClosedKeys → List ℕ → Cell → ℕ → Bool
has_closed (keys.Numbers numbers) closes key n = closes_number closes numbers key n
has_closed (keys.Keyed rows) closes key n = has_keyed rows.items key n

-- where the keys are numbers, each of the rows has one
abbrev pub AreKnown : ClosedKeys → List ℕ → Type 0
AreKnown (keys.Numbers numbers) closes = All (λ id. id < length numbers) closes
AreKnown (keys.Keyed rows) closes = Unit {0}
