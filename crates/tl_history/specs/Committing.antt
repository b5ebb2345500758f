-- The steps of a commit.
use Rattle.std.specs.Prelude.{◌≡◌, ℕ, List, length, Err}
use Rattle.std.specs.declared.option.Option.{Option}
use Rattle.tl_types.specs.declared.batches.Batch.{Batch}
use Rattle.tl_types.specs.declared.commits.Commit.{Commit}
use Rattle.tl_types.specs.declared.limits.Limits.{Limits}
use Rattle.tl_types.specs.History.{database_of}
use Rattle.tl_types.specs.Resolving.{resolved}
use Rattle.tl_device.specs.Known.{Rose}
use Rattle.tl_journal.specs.Moments.{EachMoment, IsUntouched}
use Rattle.tl_journal.specs.Plain as journal
use Rattle.tl_journal.specs.Stands.{JournalStandsFor}
use Rattle.tl_history.specs.declared.faults.CommitFault.{CommitFault}
use Rattle.tl_history.specs.declared.faults.CommitFault.TheVariants as fault

-- the batch becomes no commit over these commits, by this fault, or memory ran out
abbrev pub IsRefusal : Limits → List Commit → ℕ → Batch → CommitFault → Type 0
IsRefusal limits commits author batch (fault.Broken version) = ⊥
IsRefusal limits commits author batch (fault.Refused version refusal) =
    (version ≡ length commits) × (resolved limits (database_of commits) author batch ≡ Err refusal)
IsRefusal limits commits author batch fault.NoMemory = Unit {0}
IsRefusal limits commits author batch (fault.Device version count) = ⊥

-- at most the disk's room and the journal's spare have changed: a read gives what it gave, and a
-- crash leaves what it could leave, neither more nor less
pub record TakesRoom {D : Type 0} (reads : D → Option (List ℕ)) (may_leave : D → List ℕ → Type 0)
    (moment : D → ℕ) (left_since : D → ℕ → List ℕ → Type 0) (faults : D → ℕ)
    (old new : journal.Journal D) : Type 0 where
  pub gate_same : new.gate ≡ old.gate
  pub broken_same : new.broken ≡ old.broken
  pub untouched : IsUntouched reads may_leave old.disk new.disk
  pub back : (c : List ℕ) → may_leave old.disk c → may_leave new.disk c
  pub moments : EachMoment moment left_since old.disk new.disk (may_leave old.disk)
  pub count_same : faults new.disk ≡ faults old.disk
  pub stands : (cs : List Commit) → JournalStandsFor reads may_leave old cs
      → JournalStandsFor reads may_leave new cs

-- the disk failed: this is its count of faults now, and it rose
abbrev pub HasFailed : ℕ → ℕ → ℕ → Type 0
HasFailed before now count = (count ≡ now) × Rose before count
