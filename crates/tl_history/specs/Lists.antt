-- The commits that the entries of a history name.
use Rattle.std.specs.Prelude.{ℕ, List, length, Option, Some, None}
use Rattle.std.specs.List.{filter_map}
use Rattle.tl_types.specs.declared.commits.Commit.{Commit}
use Rattle.tl_types.specs.declared.commits.Entry.{Entry}
use Rattle.tl_types.specs.declared.commits.Entry.TheVariants as entry
use Rattle.tl_types.specs.Entries.{commits_of}

-- the commit that an entry has or breaks with
abbrev pub tried_of : Entry → Option Commit
tried_of (entry.Commit commit) = Some commit
tried_of (entry.Mark table version) = None
tried_of (entry.Break commit) = Some commit

-- the commits of the entries, and after them the commit of the break where there is one
abbrev pub tried_commits : List Entry → List Commit
tried_commits entries = filter_map tried_of entries

-- how many of the entries are commits
abbrev pub version_after : List Entry → ℕ
version_after entries = length (commits_of entries)
