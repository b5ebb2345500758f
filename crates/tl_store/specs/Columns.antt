-- Cells and periods, kept by columns.
use Rattle.std.specs.Prelude.{◌≡◌, ℕ, ◌+◌, ◌≤◌, ℤ, pos, ◌<ℤ◌, List, [], ◌∷◌, ◌++◌, length, map, Option, Some, None, slice_get, slice_index_or, if◌then◌else◌}
use Rattle.std.specs.List.{filter_map}
use Rattle.tl_types.specs.declared.cells.Cell.{Cell}
use Rattle.tl_types.specs.declared.cells.Cell.TheVariants as cell
use Rattle.tl_types.specs.declared.cells.ColumnKind.{ColumnKind}
use Rattle.tl_types.specs.declared.cells.ColumnKind.TheVariants.{IntKind, TextKind}
use Rattle.tl_types.specs.declared.schemas.Column.{Column}
use Rattle.tl_types.specs.Plain as plain
use Rattle.tl_store.specs.declared.columns.ColumnData.{ColumnData}
use Rattle.tl_store.specs.declared.columns.ColumnData.TheVariants as held

-- CELLS

-- the column of no cells
abbrev pub empty_column : ColumnKind → ColumnData
empty_column IntKind = held.Ints []
empty_column TextKind = held.Texts []

-- how many cells a column has
abbrev pub column_length : ColumnData → ℕ
column_length (held.Ints numbers) = length numbers
column_length (held.Texts texts) = length texts

-- the cell of a row in a column
abbrev pub cell_in : ℕ → ColumnData → Cell
cell_in row (held.Ints numbers) = cell.Int (slice_index_or numbers row (pos 0))
cell_in row (held.Texts texts) = cell.Text (slice_index_or texts row [])

-- the cells of a column
abbrev pub cells_in : ColumnData → List Cell
cells_in (held.Ints numbers) = map cell.Int numbers
cells_in (held.Texts texts) = map cell.Text texts

-- the number of a cell, 0 where it is none
abbrev pub number_in : Option Cell → ℤ
number_in None = pos 0
number_in (Some (cell.Int number)) = number
number_in (Some (cell.Text text)) = pos 0

-- the text of a cell, the empty one where it is none
abbrev pub text_in : Option Cell → List ℕ
text_in None = []
text_in (Some (cell.Int number)) = []
text_in (Some (cell.Text text)) = text

-- the number at a place of a row
abbrev pub number_at : ℕ → plain.Opened → ℤ
number_at place opened = number_in (slice_get opened.cells place)

-- the text at a place of a row
abbrev pub text_at : ℕ → plain.Opened → List ℕ
text_at place opened = text_in (slice_get opened.cells place)

-- the column at a place, followed by the cells of rows
abbrev pub longer : List plain.Opened → ℕ → ColumnData → ColumnData
longer opens place (held.Ints numbers) = held.Ints (numbers ++ map (number_at place) opens)
longer opens place (held.Texts texts) = held.Texts (texts ++ map (text_at place) opens)

-- the columns from a place on, each followed by the cells of rows
abbrev pub longer_from : List plain.Opened → ℕ → List ColumnData → List ColumnData
longer_from opens place [] = []
longer_from opens place (column ∷ columns) =
    longer opens place column ∷ longer_from opens (place + 1) columns

-- the column holds what the kind says
abbrev pub HoldsKind : ColumnKind → ColumnData → Type 0
HoldsKind IntKind (held.Ints numbers) = Unit {0}
HoldsKind IntKind (held.Texts texts) = ⊥
HoldsKind TextKind (held.Ints numbers) = ⊥
HoldsKind TextKind (held.Texts texts) = Unit {0}

-- there is one column for each of these, of its kind, and each has this many cells
abbrev pub AreColumns : ℕ → List Column → List ColumnData → Type 0
AreColumns rows [] [] = Unit {0}
AreColumns rows [] (column ∷ columns) = ⊥
AreColumns rows (named ∷ names) [] = ⊥
AreColumns rows (named ∷ names) (column ∷ columns) =
    HoldsKind named.kind column × (column_length column ≡ rows) × AreColumns rows names columns

-- PERIODS

-- the periods with these two ends
abbrev pub periods_of : List ℤ → List ℤ → List plain.Period
periods_of [] [] = []
periods_of [] (end ∷ ends) = []
periods_of (start ∷ starts) [] = []
periods_of (start ∷ starts) (end ∷ ends) =
    record { from = start; to = end } ∷ periods_of starts ends

-- there are as many ends as starts, and each start is less than its end
abbrev pub AreEnds : List ℤ → List ℤ → Type 0
AreEnds [] [] = Unit {0}
AreEnds [] (end ∷ ends) = ⊥
AreEnds (start ∷ starts) [] = ⊥
AreEnds (start ∷ starts) (end ∷ ends) = (start <ℤ end) × AreEnds starts ends

-- the periods of those rows that have one
abbrev pub periods_in : List plain.Opened → List plain.Period
periods_in opens = filter_map (λ opened. opened.period) opens

-- ROWS

-- the row with an id
abbrev pub row_in : List ColumnData → List plain.Period → ℕ → ℕ → ℕ → plain.Row
row_in columns periods id from to =
    record { cells = map (cell_in id) columns; period = slice_get periods id; from = from; to = to }

-- the rows from an id on
abbrev pub rows_in : List ColumnData → List plain.Period → ℕ → List ℕ → List ℕ → List plain.Row
rows_in columns periods id [] [] = []
rows_in columns periods id [] (to ∷ tos) = []
rows_in columns periods id (from ∷ froms) [] = []
rows_in columns periods id (from ∷ froms) (to ∷ tos) =
    row_in columns periods id from to ∷ rows_in columns periods (id + 1) froms tos

-- the columns are those of the schema, each as long as the table, and there is a period for each
-- row where the schema says so
pub record IsTable (schema : plain.Schema) (columns : List ColumnData) (periods : List plain.Period)
    (from to : List ℕ) : Type 0 where
  pub even : length to ≡ length from
  pub few : length from ≤ 16777216
  pub cells : AreColumns (length from) schema.columns columns
  pub valid : length periods ≡ (if schema.valid then length from else 0)
  pub some : 1 ≤ length columns
  pub narrow : length columns ≤ 16
