-- Lines for a table without valid time, by their keys.
use Rattle.std.specs.Prelude.{◌≡◌, ℕ, ◌+◌, Bool, false, ◌&&◌, not, List, [], ◌∷◌, Option, Some, None, if◌then◌else◌}
use Rattle.std.specs.List.{list_any}
use Rattle.tl_types.specs.declared.cells.Cell.{Cell}
use Rattle.tl_types.specs.declared.batches.BatchFault.{BatchFault}
use Rattle.tl_types.specs.declared.batches.BatchFault.TheVariants as fault
use Rattle.tl_types.specs.Plain as plain
use Rattle.tl_types.specs.History.{same_cell}
use Rattle.tl_batch.specs.Standing.{is_open_with}

-- the cell is one of the keys
abbrev pub has_cell : List Cell → Cell → Bool
has_cell keys x = list_any (same_cell x) keys

-- an open row has the key, which is the cell at a place
abbrev pub has_open : ℕ → Cell → List plain.Row → Bool
has_open place x rows = list_any (λ r. is_open_with place x (Some r)) rows

-- the fault of a line with a record number: its key is not fresh, or the line removes and no open
-- row has it
abbrev pub fault_of_key : Bool → Bool → Bool → ℕ → Option BatchFault
fault_of_key removes fresh has rec =
    if fresh then (if removes && not has then Some (fault.NoRow rec) else None) else Some
    (fault.KeyTwice rec)

-- the first fault of lines with these keys from a record number on, behind lines with the earlier
-- keys
abbrev pub key_fault : Bool → ℕ → List plain.Row → ℕ → List Cell → List Cell → Option BatchFault
key_fault removes place rows rec earlier [] = None
key_fault removes place rows rec earlier (k ∷ keys) =
    if has_cell earlier k then Some (fault.KeyTwice rec)
    else (if removes && not (has_open place k rows) then Some (fault.NoRow rec)
    else key_fault removes place rows (rec + 1) (k ∷ earlier) keys)

-- the first fault of lines with these keys from a record number on, where no key stands twice: the
-- lines remove, and no open row has the key
abbrev pub row_fault : Bool → ℕ → List plain.Row → ℕ → List Cell → Option BatchFault
row_fault removes place rows rec [] = None
row_fault removes place rows rec (k ∷ keys) =
    if removes && not (has_open place k rows) then Some (fault.NoRow rec)
    else row_fault removes place rows (rec + 1) keys

-- none of the keys is one of the earlier ones or of those before it
abbrev pub AreFresh : List Cell → List Cell → Type 0
AreFresh earlier [] = Unit {0}
AreFresh earlier (k ∷ keys) = (has_cell earlier k ≡ false) × AreFresh (k ∷ earlier) keys
