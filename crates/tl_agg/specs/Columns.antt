-- What is read of the columns of a table.
use Rattle.std.specs.Prelude.{◌≡◌, ℕ, ℤ, List, map, Option, None, Some, slice_get}
use Rattle.tl_types.specs.Plain as plain
use Rattle.tl_types.specs.declared.cells.Cell.{Cell}
use Rattle.tl_types.specs.History.{cell_at}
use Rattle.tl_store.specs.Reading.{column_cells, some_int}

-- these are the numbers of the rows in the column, where one is asked for
abbrev pub AreNumbers : List plain.Row → Option ℕ → Option (List ℤ) → Type 0
AreNumbers rows None None = Unit {0}
AreNumbers rows None (Some numbers) = ⊥
AreNumbers rows (Some column) None = ⊥
AreNumbers rows (Some column) (Some numbers) = map some_int numbers ≡ column_cells rows column

-- where there are numbers, they are those of the rows in the column
abbrev pub AreKeys : List plain.Row → Option ℕ → Option (List ℤ) → Type 0
AreKeys rows column None = Unit {0}
AreKeys rows column (Some numbers) = AreNumbers rows column (Some numbers)

-- the row with this id has this cell in the column
pub record HasKey (rows : List plain.Row) (id column : ℕ) (key : Cell) : Type 0 where
  pub row : plain.Row
  pub there : slice_get rows id ≡ Some row
  pub cell_is : cell_at row.cells column ≡ Some key
