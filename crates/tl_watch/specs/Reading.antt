-- A row of a store, and what a plan reads of a table.
use Rattle.std.specs.Prelude.{◌≡◌, ℕ, ◌<◌, List, Option, Some, None, slice_get, All}
use Rattle.tl_types.specs.History.{rows_of}
use Rattle.tl_types.specs.Plain as plain
use Rattle.tl_query.specs.declared.typed_queries.TypedTest.{TypedTest}

-- a row of a table of a database, by its id
pub record RowAt : Type 0 where
  pub db : plain.Database
  pub table : ℕ
  pub id : ℕ

-- it is this one
abbrev pub IsRow : RowAt → plain.Row → Type 0
IsRow at row = slice_get (rows_of at.db at.table) at.id ≡ Some row

-- the tests are of columns that its table has
abbrev pub HaveColumns : List TypedTest → ℕ → Type 0
HaveColumns tests columns = All (λ test. test.column < columns) tests

-- the column, where one is given, is there
abbrev pub IsWithin : Option ℕ → ℕ → Type 0
IsWithin None columns = Unit {0}
IsWithin (Some column) columns = column < columns
