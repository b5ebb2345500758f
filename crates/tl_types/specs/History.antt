-- What a history of commits means: its tables, and the rows visible at a version.
use Rattle.std.specs.Prelude.{ℕ, zero, suc, ◌+◌, ◌-◌, ℤ, Bool, true, false, ◌&&◌, not, nat_le, nat_lt, ◌==◌, int_le, int_lt, List, [], ◌∷◌, ◌++◌, length, map, take, Option, Some, None, is_some, option_map, if◌then◌else◌, slice_get}
use Rattle.std.specs.List.{list_all, list_any, enumerate_from, filter, fold, last_or}
use Rattle.std.specs.Bool.{beq}
use Rattle.std.specs.Ordering.{int_eq}
use Rattle.tl_types.specs.declared.cells.Cell.{Cell}
use Rattle.tl_types.specs.declared.cells.Cell.TheVariants as cell
use Rattle.tl_types.specs.declared.cells.ColumnKind.{ColumnKind}
use Rattle.tl_types.specs.declared.cells.ColumnKind.TheVariants.{IntKind, TextKind}
use Rattle.tl_types.specs.declared.schemas.Column.{Column}
use Rattle.tl_types.specs.declared.commits.Commit.{Commit}
use Rattle.tl_types.specs.declared.commits.Body.{Body}
use Rattle.tl_types.specs.declared.commits.Body.TheVariants as body
use Rattle.tl_types.specs.declared.limits.Limits.{Limits}
use Rattle.tl_types.specs.Names.{same_bytes}
use Rattle.tl_types.specs.Plain as plain

-- the system end of a row that is current: the greatest number of 32 bits
abbrev pub open_end : ℕ
open_end = 4294967295

-- the row is current
abbrev pub is_open : plain.Row → Bool
is_open row = row.to == open_end

-- the rows, each with its id
abbrev pub with_ids : List plain.Row → List (ℕ × plain.Row)
with_ids rows = enumerate_from 0 rows

-- the list has the id
abbrev pub has_id : List ℕ → ℕ → Bool
has_id ids id = list_any (λ x. x == id) ids

-- APPLYING A COMMIT

-- a row after the version: it ends there if its id is closed
abbrev pub row_after : ℕ → List ℕ → (ℕ × plain.Row) → plain.Row
row_after version closes entry =
    if has_id closes entry.0 then record entry.1 { to = version } else entry.1

-- the row that the version opens
abbrev pub new_row : ℕ → plain.Opened → plain.Row
new_row version opened =
    record { cells = opened.cells; period = opened.period; from = version; to = open_end }

-- a table without rows
abbrev pub new_table : plain.Schema → plain.Table
new_table schema = record { schema = schema; floor = 0; rows = [] }

-- the table after the version's change: the closed rows end, the opened rows stand behind the
-- others
abbrev pub table_after : ℕ → plain.Change → plain.Table → plain.Table
table_after version change table =
    record table {
      rows = map (row_after version change.closes) (with_ids table.rows)
          ++ map (new_row version) change.opens;
    }

-- the list with what stands at a place replaced by its image
abbrev pub at_place : {X : Type 0} → ℕ → (X → X) → List X → List X
at_place i f [] = []
at_place zero f (x ∷ xs) = f x ∷ xs
at_place (suc i) f (x ∷ xs) = x ∷ at_place i f xs

-- the table with another floor
abbrev pub with_floor : ℕ → plain.Table → plain.Table
with_floor floor table = record table { floor = floor }

-- the tables after the version's commit
abbrev pub after_body : ℕ → Body → List plain.Table → List plain.Table
after_body version (body.Create schema) tables = tables ++ new_table schema ∷ []
after_body version (body.Change change) tables =
    at_place change.table (table_after version change) tables
after_body version (body.Moment moment) tables = tables
after_body version (body.Forget number floor) tables = at_place number (with_floor floor) tables

-- the stamps that the version's commit adds: one, where it states a moment
abbrev pub stamps_of : ℕ → Body → List plain.Stamp
stamps_of version (body.Create schema) = []
stamps_of version (body.Change change) = []
stamps_of version (body.Moment moment) = record { version = version; moment = moment } ∷ []
stamps_of version (body.Forget number floor) = []

-- the number of the table that a commit's body makes, changes or sets the floor of: a moment has
-- none
abbrev pub table_number : List plain.Table → Body → Option ℕ
table_number tables (body.Create schema) = Some (length tables)
table_number tables (body.Change change) = Some change.table
table_number tables (body.Moment moment) = None
table_number tables (body.Forget number floor) = Some number

-- the ids of the rows that a commit's body closes
abbrev pub closed_by : Body → List ℕ
closed_by (body.Create schema) = []
closed_by (body.Change change) = change.closes
closed_by (body.Moment moment) = []
closed_by (body.Forget number floor) = []

-- the rows that it opens
abbrev pub opened_by : Body → List plain.Opened
opened_by (body.Create schema) = []
opened_by (body.Change change) = change.opens
opened_by (body.Moment moment) = []
opened_by (body.Forget number floor) = []

-- the database after one commit more, whose version is the next
abbrev pub after_commit : plain.Database → Commit → plain.Database
after_commit db commit =
    record {
      version = db.version + 1;
      tables = after_body (db.version + 1) commit.body db.tables;
      stamps = db.stamps ++ stamps_of (db.version + 1) commit.body;
    }

-- the database without commits
abbrev pub nothing : plain.Database
nothing = record { version = 0; tables = []; stamps = [] }

-- the database after these commits
abbrev pub database_of : List Commit → plain.Database
database_of commits = fold after_commit nothing commits

-- the database after the first commits, as many as the version says
abbrev pub database_at : List Commit → ℕ → plain.Database
database_at commits version = database_of (take version commits)

-- A COMMIT THAT FITS

-- the table has the name
abbrev pub has_name : List ℕ → plain.Table → Bool
has_name name table = same_bytes table.schema.name name

-- the cell is what the column holds
abbrev pub is_of_kind : ColumnKind → Cell → Bool
is_of_kind IntKind (cell.Int i) = true
is_of_kind IntKind (cell.Text t) = false
is_of_kind TextKind (cell.Int i) = false
is_of_kind TextKind (cell.Text t) = true

-- there is one cell for each column, and each is what its column holds
abbrev pub match_columns : List Column → List Cell → Bool
match_columns [] [] = true
match_columns [] (x ∷ xs) = false
match_columns (c ∷ cs) [] = false
match_columns (c ∷ cs) (x ∷ xs) = is_of_kind c.kind x && match_columns cs xs

-- the row's cells match the columns, and it has a period exactly where the schema says so
abbrev pub matches : plain.Schema → plain.Opened → Bool
matches schema opened =
    match_columns schema.columns opened.cells && beq schema.valid (is_some opened.period)

-- the row with the id is there and is current
abbrev pub is_open_at : List plain.Row → ℕ → Bool
is_open_at [] id = false
is_open_at (row ∷ rows) zero = is_open row
is_open_at (row ∷ rows) (suc id) = is_open_at rows id

-- the change names this table, closes open rows only, opens rows that match, and leaves few enough
-- rows
abbrev pub fits_table : Limits → plain.Change → Option plain.Table → Bool
fits_table limits change None = false
fits_table limits change (Some table) =
    list_all (is_open_at table.rows) change.closes
    && list_all (matches table.schema) change.opens
    && nat_le (length table.rows + length change.opens) limits.rows

-- the moment of the last stamp, where there is one
abbrev pub last_moment : List plain.Stamp → Option ℤ
last_moment stamps = option_map (λ stamp. stamp.moment) (last_or None stamps)

-- the moment is greater than the last one, where there is one
abbrev pub is_later : ℤ → Option ℤ → Bool
is_later moment None = true
is_later moment (Some last) = int_lt last moment

-- the floor is greater than that of this table, and no version that is still to come
abbrev pub fits_floor : ℕ → ℕ → Option plain.Table → Bool
fits_floor now floor None = false
fits_floor now floor (Some table) = nat_lt table.floor floor && nat_le floor now

-- a new table has a new name, and there is room for it; a change fits its table; a moment is
-- greater than that of the last stamp; a floor is greater than that of its table, and at most the
-- number of commits
abbrev pub fits_body : Limits → plain.Database → Body → Bool
fits_body limits db (body.Create schema) =
    not (list_any (has_name schema.name) db.tables) && nat_lt (length db.tables) limits.tables
fits_body limits db (body.Change change) =
    fits_table limits change (slice_get db.tables change.table)
fits_body limits db (body.Moment moment) = is_later moment (last_moment db.stamps)
fits_body limits db (body.Forget number floor) =
    fits_floor db.version floor (slice_get db.tables number)

-- the commit fits the database: there is room for a version, and what it does fits the database
abbrev pub fits : Limits → plain.Database → Commit → Bool
fits limits db commit = nat_lt db.version limits.versions && fits_body limits db commit.body

-- READING

-- the row stands at the version
abbrev pub is_visible : ℕ → plain.Row → Bool
is_visible version row = nat_le row.from version && nat_lt version row.to

-- the version at a moment, with so many commits: one before the first stamp of a greater moment, or
-- the last one where there is none
abbrev pub version_at_moment : ℕ → List plain.Stamp → ℤ → ℕ
version_at_moment now [] moment = now
version_at_moment now (stamp ∷ stamps) moment =
    if int_lt moment stamp.moment then stamp.version - 1 else version_at_moment now stamps moment

-- the floor of a table, 0 where there is none
abbrev pub floor_of : Option plain.Table → ℕ
floor_of None = 0
floor_of (Some table) = table.floor

-- the database with each floor 0: what it is but for its floors
abbrev pub without_floors : plain.Database → plain.Database
without_floors db = record db { tables = map (with_floor 0) db.tables }

-- the rows of the table with this number, none where there is no such table
abbrev pub rows_of : plain.Database → ℕ → List plain.Row
rows_of db table = rows_of_table (slice_get db.tables table) where
  rows_of_table : Option plain.Table → List plain.Row
  rows_of_table None = []
  rows_of_table (Some t) = t.rows

-- the rows of a table that stand at the version, in order of id, each with its id
abbrev pub visible_rows : plain.Database → ℕ → ℕ → List (ℕ × plain.Row)
visible_rows db table version = filter (λ r. is_visible version r.1) (with_ids (rows_of db table))

-- the moment is within the period
abbrev pub is_within : ℤ → Option plain.Period → Bool
is_within moment None = false
is_within moment (Some p) = int_le p.from moment && int_lt moment p.to

-- the rows whose period holds the moment
abbrev pub rows_valid_at : ℤ → List (ℕ × plain.Row) → List (ℕ × plain.Row)
rows_valid_at moment rows = filter (λ r. is_within moment r.1.period) rows

-- two cells are the same
abbrev pub same_cell : Cell → Cell → Bool
same_cell (cell.Int i) (cell.Int j) = int_eq i j
same_cell (cell.Int i) (cell.Text t) = false
same_cell (cell.Text s) (cell.Int j) = false
same_cell (cell.Text s) (cell.Text t) = same_bytes s t

-- the cell at a place, where there is one
abbrev pub cell_at : List Cell → ℕ → Option Cell
cell_at cells place = slice_get cells place
