-- What the opening of a journal answers over what applies its commits.
use Rattle.std.specs.Prelude.{◌≡◌, ℕ, ◌<◌, List, Some, None, IfSome, Result, Ok, Err, IfOk, IfErr}
use Rattle.std.specs.declared.option.Option.{Option}
use Rattle.tl_types.specs.declared.commits.Commit.{Commit}
use Rattle.tl_types.specs.declared.limits.Limits.{Limits}
use Rattle.tl_types.specs.Legality.{FitInTurn}
use Rattle.tl_device.specs.Disk.{IsStored}
use Rattle.tl_journal.specs.Answers.{CountsFaults, IsTooShort, IsDeviceOrMemory}
use Rattle.tl_journal.specs.Image.{ImageStandsFor, ImageStandsOnlyFor}
use Rattle.tl_journal.specs.Moments.{EachMoment, EachMomentBySync, IsUntouched, LosesNothing, IsDurable, IsAsBeforeOrDurable, OldOr}
use Rattle.tl_journal.specs.Stands.{JournalStandsFor, SameOrTrimmed}
use Rattle.tl_journal.specs.Plain as journal
use Rattle.tl_journal.specs.declared.faults.JournalFault.TheVariants as journal_fault
use Rattle.tl_journal.specs.declared.opening.Refused.{Refused}
use Rattle.tl_replay.specs.Fitting.{IsDamaged}
use Rattle.tl_replay.specs.declared.opening.Begun.{Begun}
use Rattle.tl_replay.specs.declared.opening.Opened.{Opened}

-- the disk in the answer of an opening's begin
abbrev pub disk_begun : {D A : Type 0} → Result (Begun D A) (Refused D) → D
disk_begun (Ok begun) = begun.found_commits.disk
disk_begun (Err refused) = refused.disk

-- the disk in the answer of an opening
abbrev pub disk_opened : {D A : Type 0} → Result (Opened D A) (Refused D) → D
disk_opened (Ok opened) = opened.journal.disk
disk_opened (Err refused) = refused.disk

-- these bytes were read, and the disk has just them, also in a crash
pub record HasImage {D : Type 0} (reads : D → Option (List ℕ)) (may_leave : D → List ℕ → Type 0)
    (image : List ℕ) (found_commits : journal.FoundCommits D) : Type 0 where
  pub same : found_commits.image ≡ image
  pub stored : IsStored reads may_leave found_commits.disk found_commits.image

-- a journal as it is opened with these commits, which fit in turn and were applied
pub record IsOpened {D A : Type 0} (read : D → Option (List ℕ)) (may_leave : D → List ℕ → Type 0)
    (fault_count : D → ℕ) (makes : A → List Commit → A → Type 0) (given : Limits) (first : A)
    (disk : D) (commits : List Commit) (opened : Opened D A) : Type 0 where
  pub made : makes first commits opened.applied
  pub fitting : FitInTurn given commits
  pub unbroken : opened.journal.broken ≡ None
  -- the disk's count of faults has not risen
  pub count : fault_count opened.journal.disk ≡ fault_count disk
  -- where the disk told its bytes, the journal stands for the commits
  pub stands : (b : List ℕ) → read disk ≡ Some b
      → JournalStandsFor read may_leave opened.journal commits
  -- and these bytes are a journal of just them
  pub image : (b : List ℕ) → read disk ≡ Some b → ImageStandsOnlyFor commits b

-- what an opening with given limits and a first value answers, over a disk as it was before
pub record Opens {D A : Type 0} (read : D → Option (List ℕ)) (may_leave : D → List ℕ → Type 0)
    (moment : D → ℕ) (left_since : D → ℕ → List ℕ → Type 0) (fault_count : D → ℕ)
    (makes : A → List Commit → A → Type 0) (given : Limits) (first : A) (disk : D)
    (answer : Result (Opened D A) (Refused D)) : Type 0 where
  -- the journal was opened with some commits
  pub opened : IfOk answer (λ o. (commits : List Commit)
      × IsOpened read may_leave fault_count makes given first disk commits o)
  -- a journal whose commits fit in turn is refused by the disk or for memory alone
  pub honest : (b : List ℕ) (cs : List Commit) → read disk ≡ Some b → ImageStandsFor cs b
      → FitInTurn given cs → IfErr answer (λ r. IsDeviceOrMemory r.fault)
  -- at each moment a crash leaves what it could before, and from a sync on a journal of the same
  -- commits
  pub any_moment : (b : List ℕ) (cs : List Commit) → read disk ≡ Some b → ImageStandsFor cs b
      → EachMomentBySync read may_leave moment left_since disk (disk_opened answer)
      (ImageStandsFor cs)
  -- where the bytes are no journal, a crash at each moment leaves what it could before
  pub no_journal : (b : List ℕ) → read disk ≡ Some b
      → ((cs : List Commit) → ImageStandsFor cs b → ⊥)
      → EachMoment moment left_since disk (disk_opened answer) (may_leave disk)
  -- and at the end a read gives these bytes
  pub no_journal_now : (b : List ℕ) → read disk ≡ Some b
      → ((cs : List Commit) → ImageStandsFor cs b → ⊥)
      → IsUntouched read may_leave disk (disk_opened answer)
  -- a crash at the end leaves what it could before, or a journal of the same commits
  pub now : (b : List ℕ) (cs : List Commit) → read disk ≡ Some b → ImageStandsFor cs b
      → (c : List ℕ) → may_leave (disk_opened answer) c
      → OldOr (may_leave disk) (ImageStandsFor cs) c
  -- a read at the end gives the same bytes, or those without what stood past the closed gate
  pub reads : (b : List ℕ) → read disk ≡ Some b
      → (c : List ℕ) × (read (disk_opened answer) ≡ Some c) × SameOrTrimmed b c
  -- the count of faults has risen where the fault is of the disk, and not else
  pub faults : IfErr answer (λ r. CountsFaults r.fault (fault_count disk) (fault_count r.disk))
  -- `NotInitialised` gives the number of the bytes, fewer than 17, and leaves them
  pub too_short : (len : ℕ) → IfErr answer (λ r. r.fault ≡ journal_fault.NotInitialised len
      → (len < 17) × IfSome (read disk) (IsTooShort len) × IsUntouched read may_leave disk r.disk)
  -- and a crash then leaves all that it could leave before
  pub no_less : (len : ℕ) → IfErr answer (λ r. r.fault ≡ journal_fault.NotInitialised len
      → LosesNothing read may_leave disk r.disk)
  -- `Damaged` gives the place where the bytes are damaged or a commit does not fit, and leaves them
  pub damaged : (at : ℕ) → IfErr answer (λ r. r.fault ≡ journal_fault.Damaged at
      → IfSome (read disk) (IsDamaged given at) × IsUntouched read may_leave disk r.disk)
  -- and a disk that told its bytes then has just them, also in a crash
  pub durable : (at : ℕ) → IfErr answer (λ r. r.fault ≡ journal_fault.Damaged at
      → IsDurable read may_leave disk r.disk)
  -- `NoMemory` leaves the disk as before, neither more nor less; or, once a sync has answered Ok,
  -- with just the same bytes
  pub no_memory : IfErr answer (λ r. r.fault ≡ journal_fault.NoMemory
      → IsAsBeforeOrDurable read may_leave disk r.disk)
  -- `AlreadyInitialised` is not answered
  pub not_long : (len : ℕ) → IfErr answer (λ r.
      r.fault ≡ journal_fault.AlreadyInitialised len → ⊥)
