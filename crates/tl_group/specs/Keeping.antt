-- What every group keeps.
use Rattle.std.specs.Prelude.{◌≡◌, ◌≤◌, false, List, length, map, take, drop, None}
use Rattle.tl_types.specs.declared.commits.Commit.{Commit}
use Rattle.tl_types.specs.declared.commits.Entry.{Entry}
use Rattle.tl_types.specs.Entries.{commits_of, has_break}
use Rattle.tl_types.specs.Limits.{standard_limits}
use Rattle.tl_batch.specs.Made.{AreWithin}
use Rattle.tl_index.specs.Snapshots.{commit_entry}
use Rattle.tl_journal.specs.Image.{body_of}
use Rattle.tl_group.specs.Bodies.{MayWait}
use Rattle.tl_group.specs.Plain as plain

-- the commits of the snapshot
abbrev pub commits_in : {D : Type 0} → plain.Group D → List Commit
commits_in group = commits_of group.entries

-- the commits of the journal: the first of the snapshot
abbrev pub journal_commits : {D : Type 0} → plain.Group D → List Commit
journal_commits group = take group.first (commits_in group)

-- the commits that wait: those behind them
abbrev pub waiting_commits : {D : Type 0} → plain.Group D → List Commit
waiting_commits group = drop group.first (commits_in group)

-- the entries are commits alone, without mark and break
abbrev pub AreCommitsAlone : List Entry → Type 0
AreCommitsAlone entries = entries ≡ map commit_entry (commits_of entries)

-- what every group keeps beside keys that stand for the tables of its snapshot: the snapshot has
-- commits alone; the body is that of the commits that wait, and the journal, which is not broken,
-- has the room that the body may take
pub record IsKept {D : Type 0} (body : plain.GroupBody) (group : plain.Group D) : Type 0 where
  pub within : AreWithin group.limits standard_limits
  pub alone : AreCommitsAlone group.entries
  pub whole : has_break group.entries ≡ false
  pub first_there : group.first ≤ length (commits_of group.entries)
  pub unbroken : group.journal.broken ≡ None
  pub body_is : body.bytes ≡ body_of (waiting_commits group)
  pub written : MayWait (waiting_commits group)
  pub room : body.room ≤ group.journal.spare
