-- When a mark of a table is due, and the entries of commits with each mark that is due.
use Rattle.std.specs.Prelude.{ℕ, Bool, ◌&&◌, ◌==◌, ◌-◌, nat_le, nat_lt, max, List, [], ◌∷◌, ◌++◌, length, Option, Some, None, if◌then◌else◌}
use Rattle.std.specs.List.{fold}
use Rattle.tl_types.specs.declared.commits.Body.{Body}
use Rattle.tl_types.specs.declared.commits.Commit.{Commit}
use Rattle.tl_types.specs.declared.commits.Entry.{Entry}
use Rattle.tl_types.specs.declared.commits.Entry.TheVariants as entry
use Rattle.tl_types.specs.Entries.{commits_of}
use Rattle.tl_types.specs.Events.{place_of}
use Rattle.tl_types.specs.History.{table_number, rows_of}
use Rattle.tl_types.specs.Legality.{database_behind}

-- the greatest version of a mark of the table, 0 where there is none
abbrev pub last_mark : List Entry → ℕ → ℕ
last_mark [] table = 0
last_mark (entry.Commit commit ∷ entries) table = last_mark entries table
last_mark (entry.Mark t v ∷ entries) table =
    if t == table then max v (last_mark entries table) else last_mark entries table
last_mark (entry.Break commit ∷ entries) table = last_mark entries table

-- how many events the table has after its last mark
abbrev pub events_since_mark : List Entry → ℕ → ℕ
events_since_mark entries table =
    place_of (rows_of (database_behind entries) table) (length (commits_of entries))
    - place_of (rows_of (database_behind entries) table) (last_mark entries table)

-- a mark of the table is due: k is not 0, and the table has k events or more after its last mark
unfoldable pub due : List Entry → ℕ → ℕ → Bool
due entries table k = nat_lt 0 k && nat_le k (events_since_mark entries table)

-- the number of the table of a commit behind these entries, where it has one
abbrev pub table_in : List Entry → Body → Option ℕ
table_in entries body = table_number (database_behind entries).tables body

-- the entries, and behind them a mark of the table at their version where it is due; a commit
-- without a table has no mark
abbrev pub with_due : ℕ → Option ℕ → List Entry → List Entry
with_due k None entries = entries
with_due k (Some table) entries =
    if due entries table k
    then entries ++ entry.Mark table (length (commits_of entries)) ∷ []
    else entries

-- the entries, a commit, and the mark of its table, if it has one, at its version where it is due
-- then
abbrev pub paced_step : ℕ → List Entry → Commit → List Entry
paced_step k entries commit =
    with_due k (table_in entries commit.body) (entries ++ entry.Commit commit ∷ [])

-- each commit, followed by a mark of its table at its version where it is due then
abbrev pub paced : List Commit → ℕ → List Entry
paced commits k = fold (paced_step k) [] commits
