-- The commits that a store's log and tables stand for.
use Rattle.std.specs.Prelude.{◌≡◌, ℕ, ◌+◌, ◌<◌, ◌≤◌, ◌^◌, List, [], ◌∷◌, length, map, take, drop, slice_index_or}
use Rattle.tl_types.specs.declared.commits.Commit.{Commit}
use Rattle.tl_types.specs.declared.commits.Body.{Body}
use Rattle.tl_types.specs.declared.commits.Body.TheVariants as body
use Rattle.tl_types.specs.Facts.{AscendFrom}
use Rattle.tl_types.specs.History.{database_of}
use Rattle.tl_types.specs.Legality.{FitInTurn}
use Rattle.tl_types.specs.Limits.{standard_limits}
use Rattle.tl_types.specs.Plain as plain
use Rattle.tl_store.specs.declared.log.Deed.{Deed}
use Rattle.tl_store.specs.declared.log.Deed.TheVariants as deed
use Rattle.tl_store.specs.declared.log.LogEntry.{LogEntry}
use Rattle.tl_store.specs.Kept.{Kept, table_of, kept_none}

-- the row as a commit opened it
abbrev pub opened_of : plain.Row → plain.Opened
opened_of row = record { cells = row.cells; period = row.period }

-- the part of a list from a place on, of a length
abbrev pub part : {X : Type 0} → ℕ → ℕ → List X → List X
part from count xs = take count (drop from xs)

-- what a commit did, to a table where it has one
abbrev pub body_of : ℕ → Deed → Kept → Body
body_of table deed.Create kept = body.Create kept.schema
body_of table (deed.Change first_close closes first_open opens) kept =
    body.Change (record {
      table = table;
      closes = part first_close closes kept.closed;
      opens = map
          opened_of (part first_open opens kept.rows);
    })
body_of table (deed.Moment moment) kept = body.Moment moment
body_of table (deed.Forget floor) kept = body.Forget table floor

-- what a change does to a table, of which this is kept before it
abbrev pub deed_of : Kept → plain.Change → Deed
deed_of kept change =
    deed.Change (length kept.closed) (length change.closes) (length kept.rows) (length change.opens)

-- the table with a number
abbrev pub kept_at : List Kept → ℕ → Kept
kept_at tables table = slice_index_or tables table kept_none

-- the commit of an entry
abbrev pub commit_of : List Kept → LogEntry → Commit
commit_of tables entry =
    record {
      author = entry.author;
      body = body_of entry.table entry.deed
          (kept_at tables entry.table);
    }

-- the commits of a log
abbrev pub history_of : List Kept → List LogEntry → List Commit
history_of tables log = map (commit_of tables) log

-- the ids and the rows of a change are there
abbrev pub IsPart : ℕ → ℕ → ℕ → ℕ → Kept → Type 0
IsPart first_close closes first_open opens kept =
    (first_close + closes ≤ length kept.closed)
    × (first_open + opens ≤ length kept.rows)
    × (closes < 2 ^ 32)
    × (opens < 2 ^ 32)
    × AscendFrom 0 (part first_close closes kept.closed)

-- what the commit is read from is there: the table that was made or changed, and its ids and rows
abbrev pub IsDeed : List Kept → ℕ → Deed → Type 0
IsDeed tables table deed.Create = table < length tables
IsDeed tables table (deed.Change first_close closes first_open opens) =
    (table < length tables) × IsPart first_close closes first_open opens (kept_at tables table)
IsDeed tables table (deed.Moment moment) = Unit {0}
IsDeed tables table (deed.Forget floor) = Unit {0}

-- what each commit is read from is there
abbrev pub AreEntries : List Kept → List LogEntry → Type 0
AreEntries tables [] = Unit {0}
AreEntries tables (entry ∷ log) =
    IsDeed tables entry.table entry.deed × AreEntries tables log

-- the database of these tables and stamps, after so many commits
abbrev pub database_with : ℕ → List Kept → List plain.Stamp → plain.Database
database_with version tables stamps =
    record { version = version; tables = map table_of tables; stamps = stamps }

-- the tables and the stamps are those of the log's commits, and each commit fits those before it
pub record IsHistory (tables : List Kept) (log : List LogEntry) (stamps : List plain.Stamp)
    : Type 0 where
  pub stands : database_of (history_of tables log) ≡ database_with (length log) tables stamps
  pub fitting : FitInTurn standard_limits (history_of tables log)
  pub entries : AreEntries tables log
  pub few_tables : length tables ≤ 64
  pub few_commits : length log ≤ 16777215
