-- What a number tells of a row, and the value of an aggregate of its rows.
use Rattle.std.specs.Prelude.{◌≡◌, ℕ, ℤ, pos, Bool, true, false, not, List, [], ◌∷◌, Option, Some, slice_get}
use Rattle.std.specs.Ordering.{int_eq}
use Rattle.tl_types.specs.declared.answers.Field.{Field}
use Rattle.tl_types.specs.declared.answers.Field.TheVariants as field
use Rattle.tl_types.specs.Plain as plain
use Rattle.tl_query.specs.declared.ast.AggKind.{AggKind}
use Rattle.tl_query.specs.declared.ast.AggKind.TheVariants as kind
use Rattle.tl_running.specs.Standing.{number_in, Suits}

-- the number is that of the row with this id, which has one where the kind asks for it
abbrev pub TellsNumber : AggKind → Option ℕ → List plain.Row → ℕ → ℤ → Type 0
TellsNumber kind column rows id number =
    (row : plain.Row) → slice_get rows id ≡ Some row
    → (number_in column row ≡ number) × Suits kind column (row ∷ [])

-- a value of an aggregate of this kind that is that of some rows
abbrev pub has_rows : AggKind → Field → Bool
has_rows kind.Count (field.Number n) = not (int_eq n (pos 0))
has_rows k field.Empty = false
has_rows k value = true
