-- Which lists of commits fit in turn, and which lists of entries are legal: what each one needs of
-- those before it.
use Rattle.std.specs.Prelude.{ℕ, Bool, true, false, ◌&&◌, not, nat_le, nat_lt, ◌==◌, IsTrue, List, [], ◌∷◌, ◌++◌, length, take}
use Rattle.std.specs.List.{list_any}
use Rattle.tl_types.specs.declared.commits.Commit.{Commit}
use Rattle.tl_types.specs.declared.commits.Entry.{Entry}
use Rattle.tl_types.specs.declared.commits.Entry.TheVariants as entry
use Rattle.tl_types.specs.declared.limits.Limits.{Limits}
use Rattle.tl_types.specs.Entries.{commits_of, has_break}
use Rattle.tl_types.specs.History.{database_of, nothing, after_commit, fits}
use Rattle.tl_types.specs.Limits.{standard_limits}
use Rattle.tl_types.specs.Plain as plain

-- COMMITS

-- each commit fits the database after those before it
abbrev pub FitFrom : Limits → plain.Database → List Commit → Type 0
FitFrom limits db [] = Unit {0}
FitFrom limits db (commit ∷ commits) =
    IsTrue (fits limits db commit) × FitFrom limits (after_commit db commit) commits

-- the commits fit one after the other, from no commit on
abbrev pub FitInTurn : Limits → List Commit → Type 0
FitInTurn limits commits = FitFrom limits nothing commits

-- ENTRIES

-- the database after the commits among the entries
abbrev pub database_behind : List Entry → plain.Database
database_behind entries = database_of (commits_of entries)

-- the number of commits among the first entries, so many
abbrev pub version_at : List Entry → ℕ → ℕ
version_at entries count = length (commits_of (take count entries))

-- the entries' commits have the table with this number
abbrev pub has_table : List Entry → ℕ → Bool
has_table entries table = nat_lt table (length (database_behind entries).tables)

-- the entry is a mark of this table at this version
abbrev pub is_mark : ℕ → ℕ → Entry → Bool
is_mark table version (entry.Commit commit) = false
is_mark table version (entry.Mark t v) = t == table && v == version
is_mark table version (entry.Break commit) = false

-- a mark of this table at this version is among the entries
abbrev pub has_mark : List Entry → ℕ → ℕ → Bool
has_mark entries table version = list_any (is_mark table version) entries

-- no break is among the entries, and the commit fits their commits, by the standard limits
abbrev pub takes_commit : List Entry → Commit → Bool
takes_commit entries commit =
    not (has_break entries) && fits standard_limits (database_behind entries) commit

-- LEGAL LISTS

-- the entry may stand behind these: nothing follows a break; a commit, that of a break too, fits
-- the commits before it; a mark names a table and a version that these entries have, and it does
-- not stand among them
abbrev pub may_follow : List Entry → Entry → Bool
may_follow before (entry.Commit commit) = takes_commit before commit
may_follow before (entry.Mark table version) =
    not (has_break before) && has_table before table
    && nat_le version (length (commits_of before)) && not (has_mark before table version)
may_follow before (entry.Break commit) = takes_commit before commit

-- behind the first entries, each of the others may stand where it stands
abbrev pub are_legal_behind : List Entry → List Entry → Bool
are_legal_behind before [] = true
are_legal_behind before (entry ∷ entries) =
    may_follow before entry && are_legal_behind (before ++ entry ∷ []) entries

-- each entry may stand behind those before it
abbrev pub are_legal : List Entry → Bool
are_legal entries = are_legal_behind [] entries
