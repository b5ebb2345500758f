-- What packed fields stand for.
use Rattle.std.specs.Prelude.{ℕ, ℤ, pos, ◌≡◌, ◌+◌, ◌<◌, ◌≤◌, List, ◌++◌, length, slice_index_or, slice_range}
use Rattle.tl_rows.specs.declared.packed.Packed.{Packed}
use Rattle.tl_rows.specs.declared.packed.Packed.TheVariants as packed
use Rattle.tl_types.specs.declared.answers.Field.{Field}
use Rattle.tl_types.specs.declared.answers.Field.TheVariants as field

-- the field that a packed one stands for, beside the bytes of all texts and the wide numbers
abbrev pub field_in : List ℕ → List ℤ → Packed → Field
field_in texts wide (packed.Number z) = field.Number z
field_in texts wide (packed.Wide place) = field.Number (slice_index_or wide place (pos 0))
field_in texts wide (packed.Text len start) = field.Text (slice_range texts start (start + len))
field_in texts wide (packed.Ratio count place) =
    field.Ratio (slice_index_or wide place (pos 0)) count
field_in texts wide packed.Empty = field.Empty
field_in texts wide packed.Forever = field.Forever

-- a packed field's places lie inside so many bytes of texts and so many wide numbers
abbrev pub IsWithin : ℕ → ℕ → Packed → Type 0
IsWithin texts wide (packed.Number z) = Unit {0}
IsWithin texts wide (packed.Wide place) = place < wide
IsWithin texts wide (packed.Text len start) = start + len ≤ texts
IsWithin texts wide (packed.Ratio count place) = place < wide
IsWithin texts wide packed.Empty = Unit {0}
IsWithin texts wide packed.Forever = Unit {0}

-- a packed field lies inside the texts and the wide numbers, and stands for this field
pub record StandsFor (texts : List ℕ) (wide : List ℤ) (kept : Packed) (shown : Field) : Type 0 where
  pub within : IsWithin (length texts) (length wide) kept
  pub shows : field_in texts wide kept ≡ shown

-- a list is another one with more behind it
abbrev pub GoesOn : {X : Type 0} → List X → List X → Type 0
GoesOn {X} old new = (more : List X) × (new ≡ old ++ more)
