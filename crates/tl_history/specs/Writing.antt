-- A commit that is ready to be written.
use Rattle.std.specs.Prelude.{◌≡◌, ℕ, ◌≤◌, false, IsTrue, List, [], ◌∷◌, ◌++◌, length}
use Rattle.std.specs.declared.option.Option.{Option}
use Rattle.tl_types.specs.declared.batches.Batch.{Batch}
use Rattle.tl_types.specs.declared.commits.Commit.{Commit}
use Rattle.tl_types.specs.declared.commits.Entry.{Entry}
use Rattle.tl_types.specs.Entries.{commits_of, has_break}
use Rattle.tl_types.specs.History.{database_of, fits}
use Rattle.tl_types.specs.Limits.{standard_limits}
use Rattle.tl_device.specs.Known.{Rose}
use Rattle.tl_index.specs.Snapshots.{commit_entry, break_entry}
use Rattle.tl_journal.specs.Image.{IsBodyOf}
use Rattle.tl_history.specs.declared.committing.Draft.{Draft}
use Rattle.tl_history.specs.declared.faults.CommitFault.{CommitFault}
use Rattle.tl_history.specs.declared.faults.CommitFault.TheVariants as fault
use Rattle.tl_history.specs.Answers.{Fails, version_of}
use Rattle.tl_history.specs.Plain as plain

-- what is ready for a commit that fits after these entries, in this room: the entries with it,
-- those with its break, and its record with a closed gate
pub record IsDraft (entries : List Entry) (room : ℕ) (draft : Draft) : Type 0 where
  pub whole : has_break entries ≡ false
  pub fit : IsTrue (fits standard_limits (database_of (commits_of entries)) draft.commit)
  pub next : draft.next ≡ entries ++ commit_entry draft.commit ∷ []
  pub broken : draft.broken ≡ entries ++ break_entry draft.commit ∷ []
  pub body : IsBodyOf draft.commit draft.body
  pub room_is : length draft.body ≤ room

-- why no commit is ready, and what that leaves
abbrev pub DraftFails : {D : Type 0} → (D → Option (List ℕ)) → (D → List ℕ → Type 0) → (D → ℕ) → ℕ
    → Batch → plain.History D → plain.History D → CommitFault → Type 0
DraftFails reads may_leave faults author batch old new (fault.Broken version) =
    Fails reads may_leave faults author batch old new (fault.Broken version)
DraftFails reads may_leave faults author batch old new (fault.Refused version refusal) =
    Fails reads may_leave faults author batch old new (fault.Refused version refusal)
DraftFails reads may_leave faults author batch old new fault.NoMemory =
    Fails reads may_leave faults author batch old new fault.NoMemory
DraftFails reads may_leave faults author batch old new (fault.Device version count) = ⊥

-- why a commit that was ready is not written, and what that leaves
abbrev pub WriteFails : {D : Type 0} → (D → ℕ) → Commit → plain.History D → plain.History D
    → CommitFault → Type 0
WriteFails faults commit old new (fault.Broken version) = ⊥
WriteFails faults commit old new (fault.Refused version refusal) = ⊥
WriteFails faults commit old new fault.NoMemory = new ≡ old
WriteFails faults commit old new (fault.Device version count) =
    (new.entries ≡ old.entries ++ break_entry commit ∷ [])
    × (version ≡ version_of old)
    × (count ≡ faults new.journal.disk) × Rose old.first_count count
