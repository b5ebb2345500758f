-- What the readers of a store show of its tables.
use Rattle.std.specs.Prelude.{◌≡◌, ℕ, ℤ, ◌+◌, ◌≤◌, Bool, false, List, [], length, map, Option, Some, None, option_map, slice_get}
use Rattle.tl_types.specs.declared.cells.Cell.{Cell}
use Rattle.tl_types.specs.declared.cells.Cell.TheVariants as cell
use Rattle.tl_types.specs.declared.schemas.Column.{Column}
use Rattle.tl_types.specs.declared.cells.ColumnKind.TheVariants.{IntKind}
use Rattle.tl_types.specs.declared.commits.Body.{Body}
use Rattle.tl_types.specs.History.{rows_of, cell_at, closed_by, opened_by}
use Rattle.tl_types.specs.Plain as plain
use Rattle.tl_query.specs.declared.typed_queries.TypedTest.{TypedTest}
use Rattle.tl_query.specs.Passing.{cell_passes}
use Rattle.tl_store.specs.declared.shown.CellRef.{CellRef}
use Rattle.tl_store.specs.declared.shown.CellRef.TheVariants as shown
use Rattle.tl_store.specs.declared.shown.SystemPeriod.{SystemPeriod}

-- the columns of a table, where there is one
abbrev pub columns_of_table : Option plain.Table → List Column
columns_of_table None = []
columns_of_table (Some t) = t.schema.columns

-- the columns of the table with this number, none where there is no such table
abbrev pub columns_of : plain.Database → ℕ → List Column
columns_of db table = columns_of_table (slice_get db.tables table)

-- there is a table, and its rows have valid periods
abbrev pub has_periods_table : Option plain.Table → Bool
has_periods_table None = false
has_periods_table (Some t) = t.schema.valid

-- there is a table with this number, and its rows have valid periods
abbrev pub has_periods : plain.Database → ℕ → Bool
has_periods db table = has_periods_table (slice_get db.tables table)

-- the row with this id of the table with this number, where there is one
abbrev pub row_of : plain.Database → ℕ → ℕ → Option plain.Row
row_of db table row = slice_get (rows_of db table) row

-- the cell at a place of a row, where there is one
abbrev pub cell_of_row : ℕ → Option plain.Row → Option Cell
cell_of_row place None = None
cell_of_row place (Some row) = cell_at row.cells place

-- the cell of a column of a row of a table, where there is one
abbrev pub cell_of : plain.Database → ℕ → ℕ → ℕ → Option Cell
cell_of db table row column = cell_of_row column (row_of db table row)

-- what each row has in a column
abbrev pub column_cells : List plain.Row → ℕ → List (Option Cell)
column_cells rows column = map (λ row. cell_at row.cells column) rows

-- which rows have in a column what passes a test
abbrev pub rows_passing : List plain.Row → ℕ → TypedTest → List Bool
rows_passing rows column test = map (λ row. cell_passes test (cell_at row.cells column)) rows

-- the column holds numbers
abbrev pub IsIntColumn : List Column → ℕ → Type 0
IsIntColumn columns place = option_map (λ c. c.kind) (slice_get columns place) ≡ Some IntKind

-- a number as what a row has
abbrev pub some_int : ℤ → Option Cell
some_int number = Some (cell.Int number)

-- the versions at which a row stands
abbrev pub system_period : plain.Row → SystemPeriod
system_period row = record { from = row.from; to = row.to }

-- the cell that is shown
abbrev pub cell_shown : CellRef → Cell
cell_shown (shown.Int number) = cell.Int number
cell_shown (shown.Text text) = cell.Text text.now

-- a text that is shown has at most 65,535 bytes, as a `Text` of it needs
abbrev pub IsShort : CellRef → Type 0
IsShort (shown.Int number) = Unit {0}
IsShort (shown.Text text) = length text.now ≤ 65535

-- how many rows are closed or opened
abbrev pub rows_changed : Body → ℕ
rows_changed body = length (closed_by body) + length (opened_by body)
