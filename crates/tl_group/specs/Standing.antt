-- What the disk of a group stands for, and what its calls leave.
use Rattle.std.specs.Prelude.{◌≡◌, ℕ, List, [], ◌∷◌, ◌++◌, map}
use Rattle.std.specs.declared.option.Option.{Option}
use Rattle.tl_types.specs.declared.commits.Commit.{Commit}
use Rattle.tl_index.specs.Snapshots.{commit_entry}
use Rattle.tl_journal.specs.Stands.{DiskStandsFor, JournalStandsFor}
use Rattle.tl_group.specs.Keeping.{journal_commits, waiting_commits}
use Rattle.tl_group.specs.Plain as plain

-- the disk has just the journal's commits, also in a crash
abbrev pub DiskStandsForGroup : {D : Type 0} → (D → Option (List ℕ)) → (D → List ℕ → Type 0)
    → plain.Group D → Type 0
DiskStandsForGroup reads may_leave group =
    JournalStandsFor reads may_leave group.journal (journal_commits group)

-- the snapshot's list and the list of commits that wait are the old ones, each followed by this
-- commit
pub record WaitsWith {D : Type 0} (commit : Commit) (old new : plain.Group D) : Type 0 where
  pub entries_are : new.entries ≡ old.entries ++ commit_entry commit ∷ []
  pub waiting_are : waiting_commits new ≡ waiting_commits old ++ commit ∷ []
  pub journal_same : journal_commits new ≡ journal_commits old

-- the same with several commits
pub record WaitsWithAll {D : Type 0} (commits : List Commit) (old new : plain.Group D)
    : Type 0 where
  pub entries_are : new.entries ≡ old.entries ++ map commit_entry commits
  pub waiting_are : waiting_commits new ≡ waiting_commits old ++ commits
  pub journal_same : journal_commits new ≡ journal_commits old

-- the disk of a group that was given up: its count of faults is as it was, and where it stood for
-- the group it has just the journal's commits, also in a crash
pub record IsGivenBack {D : Type 0} (reads : D → Option (List ℕ)) (may_leave : D → List ℕ → Type 0)
    (faults : D → ℕ) (group : plain.Group D) (disk : D) : Type 0 where
  pub count_same : faults disk ≡ faults group.journal.disk
  pub stands : DiskStandsForGroup reads may_leave group
      → (gate : ℕ) × DiskStandsFor reads may_leave disk (journal_commits group) gate

-- the snapshot and the commits that wait are as they were
pub record WaitsAsBefore {D : Type 0} (old new : plain.Group D) : Type 0 where
  pub entries_same : new.entries ≡ old.entries
  pub first_same : new.first ≡ old.first
