-- The open rows of each key of the tables.
use Rattle.std.specs.Prelude.{◌≡◌, ℕ, ◌+◌, Bool, true, false, ◌&&◌, ◌||◌, ◌==◌, List, [], ◌∷◌, length, Option, Some, None, is_some, option_map, slice_get, unwrap_or}
use Rattle.std.specs.List.{list_all}
use Rattle.tl_types.specs.declared.cells.Cell.{Cell}
use Rattle.tl_types.specs.declared.commits.Body.{Body}
use Rattle.tl_types.specs.declared.batches.Batch.{Batch}
use Rattle.tl_types.specs.declared.batches.Batch.TheVariants as batch
use Rattle.tl_types.specs.Plain as plain
use Rattle.tl_types.specs.History.{after_commit, is_open, matches}
use Rattle.tl_types.specs.Resolving.{find_table, same_key}
use Rattle.tl_batch.specs.KeyIndex.{IdsByKey, has_row}

-- one of the opened rows, of which the first has this id, has this id and the key, which is the
-- cell at a place
abbrev pub opens_with : ℕ → ℕ → List plain.Opened → Cell → ℕ → Bool
opens_with place first [] x id = false
opens_with place first (o ∷ opens) x id =
    (same_key (slice_get o.cells place) (Some x) && (id == first))
    || opens_with place (first + 1) opens x id

-- the row has the key
abbrev pub has_key : ℕ → Cell → Option plain.Row → Bool
has_key place x None = false
has_key place x (Some row) = same_key (slice_get row.cells place) (Some x)

-- the row is current and has the key
abbrev pub is_open_with : ℕ → Cell → Option plain.Row → Bool
is_open_with place x None = false
is_open_with place x (Some row) = is_open row && same_key (slice_get row.cells place) (Some x)

-- the row with this id of the table is current and has the key
abbrev pub table_has : Option plain.Table → Cell → ℕ → Bool
table_has None x id = false
table_has (Some t) x id = is_open_with t.schema.key x (slice_get t.rows id)

-- each row matches the schema of its table
abbrev pub rows_match : Option plain.Table → Bool
rows_match None = true
rows_match (Some t) =
    list_all (λ r. matches t.schema (record { cells = r.cells; period = r.period })) t.rows

-- the ids by key are those of the open rows of the table
abbrev pub IsIndexOfTable : IdsByKey → Option plain.Table → Type 0
IsIndexOfTable index t = (x : Cell) (id : ℕ) → has_row index x id ≡ table_has t x id

-- the ids by key are those of the open rows of the table, or they are not made
abbrev pub IsIndexIfMade : Option IdsByKey → Option plain.Table → Type 0
IsIndexIfMade None t = Unit {0}
IsIndexIfMade (Some index) t = IsIndexOfTable index t

-- the ids by key of the table with this number, where they are made
abbrev pub index_at : List (Option IdsByKey) → ℕ → Option IdsByKey
index_at keys table = unwrap_or (slice_get keys table) None

-- the ids by key of the table with this number are made
abbrev pub is_made : List (Option IdsByKey) → ℕ → Bool
is_made keys table = is_some (index_at keys table)

-- the keys stand for the tables: each table has its place, and where its ids by key are made, an id
-- stands there under a key exactly where the table's row with this id is open and has the key. The
-- tables are such as fitting commits make: each row matches its schema
pub record StandFor (keys : List (Option IdsByKey)) (db : plain.Database) : Type 0 where
  pub tables : length keys ≡ length db.tables
  pub ids : (table : ℕ) → IsIndexIfMade (index_at keys table) (slice_get db.tables table)
  pub matching : (table : ℕ) → rows_match (slice_get db.tables table) ≡ true

-- the keys stand for the tables, and of each table whose ids by key were made they are made still
pub record StandStill (before after : List (Option IdsByKey)) (db : plain.Database)
    : Type 0 where
  pub stand : StandFor after db
  pub made : (table : ℕ) → is_made before table ≡ true → is_made after table ≡ true

-- the number of the table whose rows a batch puts, removes or syncs, where there is one of its name
abbrev pub number_of : plain.Database → Batch → Option ℕ
number_of db (batch.Create schema) = None
number_of db (batch.Put name lines) = option_map (λ found. found.0) (find_table name db.tables)
number_of db (batch.Remove name lines) = option_map (λ found. found.0) (find_table name db.tables)
number_of db (batch.Sync name lines) = option_map (λ found. found.0) (find_table name db.tables)
number_of db (batch.Moment moment) = None
number_of db (batch.Forget name floor) = None

-- the database after one commit more that does this, whoever makes it
abbrev pub after_doing : plain.Database → Body → plain.Database
after_doing db b = after_commit db (record { author = 0; body = b })
