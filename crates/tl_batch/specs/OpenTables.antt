-- A table of a store, and the ids of its open rows by their keys.
use Rattle.std.specs.Prelude.{◌≡◌, ℕ, true, List, Option, Some, IfSome, slice_get, unwrap_or}
use Rattle.tl_types.specs.declared.cells.Cell.{Cell}
use Rattle.tl_types.specs.declared.commits.Commit.{Commit}
use Rattle.tl_types.specs.Plain as plain
use Rattle.tl_types.specs.History.{database_of, new_table}
use Rattle.tl_batch.specs.KeyIndex.{IdsByKey, has_row}
use Rattle.tl_batch.specs.Standing.{StandFor, is_made, is_open_with, rows_match}

-- the commits of a store, and the number of the table that was found, where one was
pub record FoundTables : Type 0 where
  pub commits : List Commit
  pub found : Option ℕ

-- the keys stand for the store, and the ids by key of the table that was found are made
pub record AreFound (commits : List Commit) (keys : List (Option IdsByKey)) (found : Option ℕ)
    : Type 0 where
  pub stand : StandFor keys (database_of commits)
  pub made : IfSome found (λ number. is_made keys number ≡ true)

-- the table with a number, which has this schema
abbrev pub table_at : List Commit → ℕ → plain.Schema → plain.Table
table_at commits number schema =
    unwrap_or (slice_get (database_of commits).tables number) (new_table schema)

-- the ids by key are those of the open rows
abbrev pub IsIndexOf : IdsByKey → ℕ → List plain.Row → Type 0
IsIndexOf index place rows =
    (x : Cell) (n : ℕ) → has_row index x n ≡ is_open_with place x (slice_get rows n)

-- the table with the number is there, with this schema, which its rows match, and with these ids by
-- key
pub record IsOpenTable (commits : List Commit) (number : ℕ) (schema : plain.Schema)
    (index : IdsByKey) : Type 0 where
  pub at : slice_get (database_of commits).tables number ≡ Some (table_at commits number schema)
  pub same : schema ≡ (table_at commits number schema).schema
  pub matching : rows_match (Some (table_at commits number schema)) ≡ true
  pub ids : IsIndexOf index schema.key (table_at commits number schema).rows
