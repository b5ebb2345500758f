-- The commits of a journal while they are applied to a history.
use Rattle.std.specs.Prelude.{◌≡◌, ℕ, Bool, true, false, IsTrue, List, Option}
use Rattle.tl_types.specs.declared.commits.Commit.{Commit}
use Rattle.tl_types.specs.declared.commits.Entry.{Entry}
use Rattle.tl_types.specs.declared.limits.Limits.{Limits}
use Rattle.tl_types.specs.Entries.{commits_of, has_break}
use Rattle.tl_types.specs.History.{database_of, fits}
use Rattle.tl_types.specs.Marks.{paced, paced_step}
use Rattle.tl_batch.specs.KeyIndex.{IdsByKey}
use Rattle.tl_batch.specs.Standing.{StandFor}

-- there is no break among the entries, and the keys stand for their tables
pub record IsReplay (entries : List Entry) (keys : List (Option IdsByKey)) : Type 0 where
  pub whole : has_break entries ≡ false
  pub keys_stand : StandFor keys (database_of (commits_of entries))

-- the commit fits and is appended, with its mark where that is due; or it does not fit and nothing
-- has changed
abbrev pub IsApplied : Limits → ℕ → List Entry → List Entry → Commit → Bool → Type 0
IsApplied limits k old new commit true =
    IsTrue (fits limits (database_of (commits_of old)) commit)
    × (new ≡ paced_step k old commit)
IsApplied limits k old new commit false =
    (fits limits (database_of (commits_of old)) commit ≡ false) × (new ≡ old)

-- the entries of these commits, each with its mark where that is due by the first pace
pub record IsPaced (first_pace : ℕ) (commits : List Commit) (entries : List Entry) (pace : ℕ)
    : Type 0 where
  pub entries_are : entries ≡ paced commits first_pace
  pub pace_same : pace ≡ first_pace
