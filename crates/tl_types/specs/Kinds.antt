-- The kinds of columns and of cells as numbers.
use Rattle.std.specs.Prelude.{ℕ, ◌+◌, ◌*◌, Bool, true, false, List, fold, if◌then◌else◌}
use Rattle.tl_types.specs.declared.cells.Cell.{Cell}
use Rattle.tl_types.specs.declared.cells.Cell.TheVariants as cell
use Rattle.tl_types.specs.declared.cells.ColumnKind.{ColumnKind}
use Rattle.tl_types.specs.declared.cells.ColumnKind.TheVariants.{IntKind, TextKind}
use Rattle.tl_types.specs.declared.schemas.Column.{Column}

-- cells of the kind are texts
abbrev pub is_text_kind : ColumnKind → Bool
is_text_kind IntKind = false
is_text_kind TextKind = true

-- the column's cells are texts
abbrev pub holds_texts : Column → Bool
holds_texts column = is_text_kind column.kind

-- the cell is a text
abbrev pub is_text : Cell → Bool
is_text (cell.Int i) = false
is_text (cell.Text t) = true

-- a number with one binary digit more
abbrev pub with_digit : ℕ → Bool → ℕ
with_digit number digit = number * 2 + (if digit then 1 else 0)

-- the number with these binary digits
abbrev pub number_of : List Bool → ℕ
number_of digits = fold with_digit 0 digits
