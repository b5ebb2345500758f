-- The outline of a database: as much of it as tells whether a commit fits.
use Rattle.std.specs.Prelude.{ℕ, ◌+◌, ℤ, Bool, true, false, List, [], ◌∷◌, ◌++◌, fold, length, map, replicate, slice_set, Option, Some, None, if◌then◌else◌}
use Rattle.tl_types.specs.declared.commits.Body.{Body}
use Rattle.tl_types.specs.declared.commits.Body.TheVariants as body
use Rattle.tl_types.specs.History.{at_place, is_open, last_moment, open_end}
use Rattle.tl_types.specs.Plain as plain

-- a table's schema and floor, and of each row, in order of id, whether it is current
pub record OutlineTable : Type 0 where
  pub schema : plain.Schema
  pub floor : ℕ
  pub current : List Bool

-- the number of commits so far, the tables after them, and the moment that was stated last
pub record Outline : Type 0 where
  pub version : ℕ
  pub tables : List OutlineTable
  pub last : Option ℤ

-- the outline of a table
abbrev pub outline_of_table : plain.Table → OutlineTable
outline_of_table table =
    record { schema = table.schema; floor = table.floor; current = map is_open table.rows }

-- the outline of a database
abbrev pub outline_of : plain.Database → Outline
outline_of db =
    record {
      version = db.version;
      tables = map outline_of_table db.tables;
      last = last_moment db.stamps;
    }

-- A DATABASE BY ITS OUTLINE

-- a row that is current or is not
abbrev pub row_shown : Bool → plain.Row
row_shown current =
    record { cells = []; period = None; from = 0; to = if current then open_end else 0 }

-- a table that has the outline
abbrev pub table_shown : OutlineTable → plain.Table
table_shown table =
    record { schema = table.schema; floor = table.floor; rows = map row_shown table.current }

-- stamps of which this is the last moment
abbrev pub stamps_shown : Option ℤ → List plain.Stamp
stamps_shown None = []
stamps_shown (Some moment) = record { version = 0; moment = moment } ∷ []

-- a database that has the outline
abbrev pub database_shown : Outline → plain.Database
database_shown outline =
    record {
      version = outline.version;
      tables = map table_shown outline.tables;
      stamps = stamps_shown outline.last;
    }

-- WHAT A COMMIT MAKES OF IT

-- the outline of a table without rows
abbrev pub outline_new : plain.Schema → OutlineTable
outline_new schema = record { schema = schema; floor = 0; current = [] }

-- which rows are current once these are closed
abbrev pub after_closes : List Bool → List ℕ → List Bool
after_closes current closes = fold (λ rows id. slice_set rows id false) current closes

-- the outline of a table after a change
abbrev pub outline_changed : plain.Change → OutlineTable → OutlineTable
outline_changed change table =
    record table {
      current = after_closes table.current change.closes
          ++ replicate (length change.opens) true;
    }

-- the outline of a table with another floor
abbrev pub outline_floored : ℕ → OutlineTable → OutlineTable
outline_floored floor table = record table { floor = floor }

-- the tables' outlines after a commit's body
abbrev pub tables_after : Body → List OutlineTable → List OutlineTable
tables_after (body.Create schema) tables = tables ++ outline_new schema ∷ []
tables_after (body.Change change) tables = at_place change.table (outline_changed change) tables
tables_after (body.Moment moment) tables = tables
tables_after (body.Forget number floor) tables = at_place number (outline_floored floor) tables

-- the last moment after a commit's body
abbrev pub last_after : Body → Option ℤ → Option ℤ
last_after (body.Create schema) last = last
last_after (body.Change change) last = last
last_after (body.Moment moment) last = Some moment
last_after (body.Forget number floor) last = last

-- the outline after one commit more
abbrev pub outline_after : Body → Outline → Outline
outline_after body outline =
    record {
      version = outline.version + 1;
      tables = tables_after body outline.tables;
      last = last_after body outline.last;
    }
