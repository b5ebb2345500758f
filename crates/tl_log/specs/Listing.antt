-- What is listed of the commits of a journal, and of the tables that they make: lines of CSV, whose
-- fields are numbers, names and words, so that none wants quotes.
use Rattle.std.specs.Prelude.{ℕ, ◌+◌, Bool, true, false, List, [], ◌∷◌, ◌++◌, length, codes, Option, Some, None, get_or, slice_get, set, ◌==◌}
use Rattle.std.specs.List.{filter}
use Rattle.std.specs.Fmt.{decimal, signed_decimal}
use Rattle.tl_types.specs.declared.cells.ColumnKind.{ColumnKind}
use Rattle.tl_types.specs.declared.cells.ColumnKind.TheVariants.{IntKind, TextKind}
use Rattle.tl_types.specs.declared.schemas.Column.{Column}
use Rattle.tl_types.specs.declared.commits.Commit.{Commit}
use Rattle.tl_types.specs.declared.commits.Body.{Body}
use Rattle.tl_types.specs.declared.commits.Body.TheVariants as body
use Rattle.tl_types.specs.History.{closed_by, database_of, is_open, opened_by}
use Rattle.tl_types.specs.Plain as plain

-- fields, parted by commas, and the end of their line
abbrev pub line_of : List (List ℕ) → List ℕ
line_of [] = codes "\n"
line_of (x ∷ []) = x ++ codes "\n"
line_of (x ∷ y ∷ xs) = x ++ (codes "," ++ line_of (y ∷ xs))

-- COMMITS

-- the name of a table, the empty text where there is none
abbrev pub name_of : Option plain.Table → List ℕ
name_of None = []
name_of (Some t) = t.schema.name

-- the name of the table with a number
abbrev pub name_at : plain.Database → ℕ → List ℕ
name_at db table = name_of (slice_get db.tables table)

-- the name of the table that a commit creates, changes or sets the floor of: a moment has none
abbrev pub table_name : plain.Database → Body → List ℕ
table_name db (body.Create schema) = schema.name
table_name db (body.Change change) = name_at db change.table
table_name db (body.Moment moment) = []
table_name db (body.Forget number floor) = name_at db number

-- the word for what a commit does
abbrev pub deed_word : Body → List ℕ
deed_word (body.Create schema) = codes "create"
deed_word (body.Change change) = codes "change"
deed_word (body.Moment moment) = codes "moment"
deed_word (body.Forget number floor) = codes "forget"

-- the moment that a commit states, the empty text where it states none
abbrev pub moment_words : Body → List ℕ
moment_words (body.Create schema) = []
moment_words (body.Change change) = []
moment_words (body.Moment moment) = signed_decimal moment
moment_words (body.Forget number floor) = []

-- the floor that a commit sets, the empty text where it sets none
abbrev pub floor_words : Body → List ℕ
floor_words (body.Create schema) = []
floor_words (body.Change change) = []
floor_words (body.Moment moment) = []
floor_words (body.Forget number floor) = decimal floor

-- what a commit does, how many rows it closes and opens, and the moment and the floor that it
-- states: the end of its line
abbrev pub deed_words : Body → List ℕ
deed_words body =
    line_of (deed_word body ∷ decimal (length (closed_by body)) ∷ decimal (length (opened_by body))
    ∷ moment_words body ∷ floor_words body ∷ [])

-- the line of a commit: its version, the number of its session, its table, and what it does
abbrev pub commit_line : plain.Database → ℕ → Commit → List ℕ
commit_line db version commit =
    decimal version ++ (codes "," ++ (decimal commit.author ++ (codes ","
    ++ (table_name db commit.body ++ (codes "," ++ deed_words commit.body)))))

-- the lines of commits, the first of which makes this version
abbrev pub lines_from : plain.Database → ℕ → List Commit → List ℕ
lines_from db version [] = []
lines_from db version (c ∷ cs) = commit_line db version c ++ lines_from db (version + 1) cs

-- the listing of commits
abbrev pub log_text : List Commit → List ℕ
log_text commits =
    codes "version,session,table,what,closed,opened,moment,floor\n"
    ++ lines_from (database_of commits) 1 commits

-- TABLES

-- the last version of each table, once one more is made by this: a new table stands behind the
-- others, and a changed one has the version; a moment and a floor change no row
abbrev pub lasts_after : ℕ → Body → List ℕ → List ℕ
lasts_after version (body.Create schema) lasts = lasts ++ version ∷ []
lasts_after version (body.Change change) lasts = set lasts change.table version
lasts_after version (body.Moment moment) lasts = lasts
lasts_after version (body.Forget number floor) lasts = lasts

-- the same behind these commits, the first of which makes this version
abbrev pub lasts_from : ℕ → List Commit → List ℕ → List ℕ
lasts_from version [] lasts = lasts
lasts_from version (c ∷ cs) lasts = lasts_from (version + 1) cs (lasts_after version c.body lasts)

-- of each table the version of the last commit that created or changed it
abbrev pub last_versions : List Commit → List ℕ
last_versions commits = lasts_from 1 commits []

-- the word for what a column holds
abbrev pub kind_word : ColumnKind → List ℕ
kind_word IntKind = codes "INT"
kind_word TextKind = codes "TEXT"

-- yes or no
abbrev pub yes_word : Bool → List ℕ
yes_word true = codes "yes"
yes_word false = codes "no"

-- the number of rows that are current
abbrev pub open_rows : List plain.Row → ℕ
open_rows rows = length (filter is_open rows)

-- how many rows of a table are current, how many it has with those that have ended, its last
-- version, whether its rows have a valid period, its floor, and the end of the line
abbrev pub table_words : ℕ → plain.Table → List ℕ
table_words last table =
    line_of (decimal (open_rows table.rows) ∷ decimal (length table.rows) ∷ decimal last
    ∷ yes_word table.schema.valid ∷ decimal table.floor ∷ [])

-- the line of the column at a place: its table, its name, what it holds, whether it is the key, and
-- the words of its table, which end the line
abbrev pub column_line : plain.Schema → List ℕ → ℕ → Column → List ℕ
column_line schema words place column =
    schema.name ++ (codes "," ++ (column.name ++ (codes "," ++ (kind_word column.kind
    ++ (codes "," ++ (yes_word (place == schema.key) ++ (codes "," ++ words)))))))

-- the lines of columns, the first of which stands at this place
abbrev pub column_lines : plain.Schema → List ℕ → ℕ → List Column → List ℕ
column_lines schema words place [] = []
column_lines schema words place (c ∷ cs) =
    column_line schema words place c ++ column_lines schema words (place + 1) cs

-- the lines of a table with a last version
abbrev pub table_lines : ℕ → plain.Table → List ℕ
table_lines last table =
    column_lines table.schema (table_words last table) 0 table.schema.columns

-- the lines of tables with their last versions, the first of which has this number
abbrev pub lines_of_tables : List ℕ → ℕ → List plain.Table → List ℕ
lines_of_tables lasts number [] = []
lines_of_tables lasts number (t ∷ ts) =
    table_lines (get_or lasts number 0) t ++ lines_of_tables lasts (number + 1) ts

-- the listing of tables
abbrev pub tables_text : List Commit → List ℕ
tables_text commits =
    codes "table,column,type,key,open,rows,version,valid,floor\n"
    ++ lines_of_tables (last_versions commits) 0 (database_of commits).tables
