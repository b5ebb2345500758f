-- What the calls of a history answer.
use Rattle.std.specs.Prelude.{◌≡◌, ◌⊎◌, ℕ, ◌<◌, true, false, List, [], ◌∷◌, ◌++◌, length, Some, IfSome, Result, Ok, Err, IfOk, IfErr}
use Rattle.std.specs.declared.option.Option.{Option}
use Rattle.tl_types.specs.declared.batches.Batch.{Batch}
use Rattle.tl_types.specs.declared.commits.Commit.{Commit}
use Rattle.tl_types.specs.declared.commits.Entry.{Entry}
use Rattle.tl_types.specs.declared.limits.Limits.{Limits}
use Rattle.tl_types.specs.Entries.{commits_of, has_break}
use Rattle.tl_types.specs.History.{database_of}
use Rattle.tl_types.specs.Marks.{paced}
use Rattle.tl_types.specs.Resolving.{resolved}
use Rattle.tl_batch.specs.Made.{AreWithin}
use Rattle.tl_device.specs.Disk.{IsStored}
use Rattle.tl_device.specs.Known.{Rose}
use Rattle.tl_index.specs.Snapshots.{break_entry}
use Rattle.tl_journal.specs.Answers.{CountsFaults, IsTooShort, IsDeviceOrMemory}
use Rattle.tl_journal.specs.Image.{ImageStandsFor, ImageStandsOnlyFor}
use Rattle.tl_journal.specs.Moments.{EachMoment, EachMomentBySync, IsUntouched, LosesNothing, IsAsBefore, IsDurable, OldOr}
use Rattle.tl_journal.specs.Stands.{SameOrTrimmed}
use Rattle.tl_journal.specs.declared.faults.JournalFault.TheVariants as journal_fault
use Rattle.tl_journal.specs.declared.opening.Refused.{Refused}
use Rattle.tl_history.specs.declared.faults.CommitFault.{CommitFault}
use Rattle.tl_history.specs.declared.faults.CommitFault.TheVariants as fault
use Rattle.tl_types.specs.Legality.{FitInTurn}
use Rattle.tl_replay.specs.Fitting.{IsDamaged}
use Rattle.tl_history.specs.Plain as plain
use Rattle.tl_history.specs.Standing.{HasRoomAlone, DiskStandsForHistory}

-- the disk in the answer of an opening
abbrev pub disk_opened : {D : Type 0} → Result (plain.History D) (Refused D) → D
disk_opened (Ok history) = history.journal.disk
disk_opened (Err refused) = refused.disk

-- a disk that told its bytes now has just them, or them without what stood past the closed gate,
-- also in a crash
abbrev pub KeepsOrTrims : {D : Type 0} → (D → Option (List ℕ)) → (D → List ℕ → Type 0) → D → D
    → Type 0
KeepsOrTrims reads may_leave old new =
    (b : List ℕ) → reads old ≡ Some b → (c : List ℕ) × SameOrTrimmed b c
    × IsStored reads may_leave new c

-- a history as it is opened: commits that fit in turn, each with its mark where that is due
pub record IsOpened {D : Type 0} (k : ℕ) (history : plain.History D) : Type 0 where
  pub pace : history.entries ≡ paced (commits_of history.entries) k
  pub whole : has_break history.entries ≡ false
  pub fitting : FitInTurn history.limits (commits_of history.entries)

-- what an opening with given limits and marks at this pace answers, over a disk as it was before
pub record Opens {D : Type 0} (read : D → Option (List ℕ)) (may_leave : D → List ℕ → Type 0)
    (moment : D → ℕ) (left_since : D → ℕ → List ℕ → Type 0) (fault_count : D → ℕ) (given : Limits)
    (k : ℕ) (disk : D) (answer : Result (plain.History D) (Refused D)) : Type 0 where
  -- the history has commits that fit in turn, with the marks that are due
  pub opened : IfOk answer (IsOpened k)
  -- its limits are those given
  pub limits : IfOk answer (λ h. h.limits ≡ given)
  -- its first count of faults is that of the disk, which has not risen
  pub count : IfOk answer (λ h. (h.first_count ≡ fault_count disk)
      × (fault_count h.journal.disk ≡ fault_count disk))
  -- where the disk told its bytes, it stands for the history
  pub stands : (b : List ℕ) → read disk ≡ Some b → IfOk answer (DiskStandsForHistory read may_leave)
  -- and these bytes are a journal of just the commits of the history
  pub image : (b : List ℕ) → read disk ≡ Some b
      → IfOk answer (λ h. ImageStandsOnlyFor (commits_of h.entries) b)
  -- a journal whose commits fit in turn, with the limits given or smaller ones, is refused by the
  -- disk or for memory alone
  pub honest : (b : List ℕ) (cs : List Commit) (smaller : Limits) → read disk ≡ Some b
      → ImageStandsFor cs b → AreWithin smaller given → FitInTurn smaller cs
      → IfErr answer (λ r. IsDeviceOrMemory r.fault)
  -- at each moment a crash leaves what it could before, and from a sync on a journal of the same
  -- commits
  pub any_moment : (b : List ℕ) (cs : List Commit) → read disk ≡ Some b → ImageStandsFor cs b
      → EachMomentBySync read may_leave moment left_since disk (disk_opened answer)
      (ImageStandsFor cs)
  -- where the bytes are no journal, a crash at each moment leaves what it could before
  pub no_journal : (b : List ℕ) → read disk ≡ Some b
      → ((cs : List Commit) → ImageStandsFor cs b → ⊥)
      → EachMoment moment left_since disk (disk_opened answer) (may_leave disk)
  -- and at the end a read gives these bytes
  pub no_journal_now : (b : List ℕ) → read disk ≡ Some b
      → ((cs : List Commit) → ImageStandsFor cs b → ⊥)
      → IsUntouched read may_leave disk (disk_opened answer)
  -- a crash at the end leaves what it could before, or a journal of the same commits
  pub now : (b : List ℕ) (cs : List Commit) → read disk ≡ Some b → ImageStandsFor cs b
      → (c : List ℕ) → may_leave (disk_opened answer) c
      → OldOr (may_leave disk) (ImageStandsFor cs) c
  -- a read at the end gives the same bytes, or those without what stood past the closed gate
  pub reads : (b : List ℕ) → read disk ≡ Some b
      → (c : List ℕ) × (read (disk_opened answer) ≡ Some c) × SameOrTrimmed b c
  -- the count of faults has risen where the fault is of the disk, and not else
  pub faults : IfErr answer (λ r. CountsFaults r.fault (fault_count disk) (fault_count r.disk))
  -- `NotInitialised` gives the number of the bytes, fewer than 17, and leaves them
  pub too_short : (len : ℕ) → IfErr answer (λ r. r.fault ≡ journal_fault.NotInitialised len
      → (len < 17) × IfSome (read disk) (IsTooShort len) × IsUntouched read may_leave disk r.disk)
  -- and a crash then leaves all that it could leave before
  pub no_less : (len : ℕ) → IfErr answer (λ r. r.fault ≡ journal_fault.NotInitialised len
      → LosesNothing read may_leave disk r.disk)
  -- `Damaged` gives the place where the bytes are damaged or a commit does not fit, and leaves them
  pub damaged : (at : ℕ) → IfErr answer (λ r. r.fault ≡ journal_fault.Damaged at
      → IfSome (read disk) (IsDamaged given at) × IsUntouched read may_leave disk r.disk)
  -- and a disk that told its bytes then has just them, also in a crash
  pub durable : (at : ℕ) → IfErr answer (λ r. r.fault ≡ journal_fault.Damaged at
      → IsDurable read may_leave disk r.disk)
  -- `NoMemory` leaves the disk as before, neither more nor less; or, once a sync has answered Ok,
  -- with just the same bytes, or with those without what stood past the closed gate
  pub no_memory : IfErr answer (λ r. r.fault ≡ journal_fault.NoMemory
      → IsAsBefore read may_leave disk r.disk ⊎ KeepsOrTrims read may_leave disk r.disk)
  -- `AlreadyInitialised` is not answered
  pub not_long : (len : ℕ) → IfErr answer (λ r.
      r.fault ≡ journal_fault.AlreadyInitialised len → ⊥)

-- the history has one entry more, which is made of what the batch becomes over the commits before;
-- there was no break before
pub record Appends {D : Type 0} (author : ℕ) (batch : Batch) (of_commit : Commit → Entry)
    (old new : plain.History D) : Type 0 where
  pub commit : Commit
  pub whole : has_break old.entries ≡ false
  pub resolves : resolved old.limits (database_of (commits_of old.entries)) author batch ≡ Ok commit
  pub entries_are : new.entries ≡ old.entries ++ of_commit commit ∷ []

-- the number of the commits of a history
abbrev pub version_of : {D : Type 0} → plain.History D → ℕ
version_of history = length (commits_of history.entries)

-- what a commit that fails says, and what it leaves
abbrev pub Fails : {D : Type 0} → (D → Option (List ℕ)) → (D → List ℕ → Type 0) → (D → ℕ) → ℕ
    → Batch → plain.History D → plain.History D → CommitFault → Type 0
Fails reads may_leave faults author batch old new (fault.Broken version) =
    (has_break old.entries ≡ true) × (version ≡ version_of old) × (new ≡ old)
Fails reads may_leave faults author batch old new (fault.Refused version refusal) =
    (has_break old.entries ≡ false) × (version ≡ version_of old) × (new ≡ old)
    × (resolved old.limits (database_of (commits_of old.entries)) author batch ≡ Err refusal)
Fails reads may_leave faults author batch old new fault.NoMemory =
    (has_break old.entries ≡ false) × HasRoomAlone reads may_leave faults old new
Fails reads may_leave faults author batch old new (fault.Device version count) =
    Appends author batch break_entry old new × (version ≡ version_of old)
    × (count ≡ faults new.journal.disk) × Rose old.first_count count
