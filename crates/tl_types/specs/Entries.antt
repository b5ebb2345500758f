-- What the entries of a history say: its commits, and whether it has a break.
use Rattle.std.specs.Prelude.{Bool, false, true, List, Option, Some, None}
use Rattle.std.specs.List.{filter_map, list_any}
use Rattle.tl_types.specs.declared.commits.Commit.{Commit}
use Rattle.tl_types.specs.declared.commits.Entry.{Entry}
use Rattle.tl_types.specs.declared.commits.Entry.TheVariants as entry

-- the commit of an entry that is one
abbrev pub commit_of : Entry → Option Commit
commit_of (entry.Commit commit) = Some commit
commit_of (entry.Mark table version) = None
commit_of (entry.Break commit) = None

-- the commits among the entries, in order
abbrev pub commits_of : List Entry → List Commit
commits_of entries = filter_map commit_of entries

-- the entry is a break
abbrev pub is_break : Entry → Bool
is_break (entry.Commit commit) = false
is_break (entry.Mark table version) = false
is_break (entry.Break commit) = true

-- a break is among the entries
abbrev pub has_break : List Entry → Bool
has_break entries = list_any is_break entries
