-- What a command leaves outside that appends a group of commits to its journal: C are the commits
-- of the opening, and all are these and those of the group. By status:
--
--   status       written                                      the disk stands for
--   Done         the text                                     all, also in a crash
--   NoMemory     nothing                                      C
--   SinkFault    first bytes of the text, or of the line      all
--                of a disk that failed                        C, or all
--   DiskFault    the closing line                             C, or all
--
-- `What` says of all commits and the text what they are. What was read and may have a fault, each
-- command says itself, and how it ends then: the group is given up.
use Rattle.std.specs.Prelude.{◌≡◌, ◌⊎◌, ℕ, List, take, Some, None}
use Rattle.tl_types.specs.declared.commits.Commit.{Commit}
use Rattle.tl_device.specs.Known.{append_known, Rose}
use Rattle.tl_journal.specs.Image.{ImageStandsFor}
use Rattle.tl_command.specs.declared.statuses.Status.{Status}
use Rattle.tl_command.specs.declared.statuses.Status.TheVariants as status
use Rattle.tl_command.specs.Outside.{Outside, HoldsJournal}
use Rattle.tl_command.specs.Status.{closing_line}

-- the bytes were written, and the sink did not fail
abbrev pub Prints : List ℕ → Outside → Outside → Type 0
Prints bytes before after =
    (after.written ≡ append_known before.written bytes) × (after.sink_faults ≡ before.sink_faults)

-- the sink failed behind some first ones of the bytes
abbrev pub PrintsSome : List ℕ → Outside → Outside → Type 0
PrintsSome bytes before after =
    Rose before.sink_faults after.sink_faults
    × ((n : ℕ) × (after.written ≡ append_known before.written (take n bytes)))

-- nothing was written
abbrev pub PrintsNothing : Outside → Outside → Type 0
PrintsNothing before after =
    (after.written ≡ before.written) × (after.sink_faults ≡ before.sink_faults)

-- the image is a journal of the commits of the opening, or of all: never of a part of those between
abbrev pub StandsForEither : List Commit → List Commit → List ℕ → Type 0
StandsForEither opening all image = ImageStandsFor opening image ⊎ ImageStandsFor all image

-- the disk failed while the group was appended: where it told its bytes, what a read gives and what
-- a crash now leaves stand for the commits of the opening or for all
pub record HoldsEither (opening all : List Commit) (before after : Outside) : Type 0 where
  pub rose : Rose before.disk_faults after.disk_faults
  pub leaves : (b : List ℕ) → before.reads ≡ Some b
      → (image : List ℕ) → after.may_leave image → StandsForEither opening all image
  pub reads : (b : List ℕ) → before.reads ≡ Some b
      → (image : List ℕ) × (after.reads ≡ Some image) × StandsForEither opening all image

-- the text was written, and the disk holds all commits
pub record AppendsAll (What : List Commit → List ℕ → Type 0) (before after : Outside) : Type 0 where
  pub all : List Commit
  pub text : List ℕ
  pub what : What all text
  pub prints : Prints text before after
  pub holds : HoldsJournal all None before after

-- the disk failed while the group was appended, and the closing line alone was written
pub record AppendFails (What : List Commit → List ℕ → Type 0) (opening : List Commit)
    (ended : Status) (before after : Outside) : Type 0 where
  pub all : List Commit
  pub text : List ℕ
  pub what : What all text
  pub prints : Prints (closing_line ended) before after
  pub holds : HoldsEither opening all before after

-- the group was given up, with the closing line alone, and the disk holds what it had
pub record IsGivenUp (opening : List Commit) (ended : Status) (before after : Outside) : Type 0
  where
    pub prints : Prints (closing_line ended) before after
    pub holds : HoldsJournal opening None before after

-- the sink failed at the text, with all commits on the disk
pub record CutsText (What : List Commit → List ℕ → Type 0) (before after : Outside) : Type 0 where
  pub all : List Commit
  pub text : List ℕ
  pub what : What all text
  pub prints : PrintsSome text before after
  pub holds : HoldsJournal all None before after

-- the sink failed at the closing line, once the disk had failed
pub record CutsFailed (What : List Commit → List ℕ → Type 0) (opening : List Commit)
    (before after : Outside) : Type 0 where
  pub all : List Commit
  pub text : List ℕ
  pub what : What all text
  pub prints : PrintsSome (closing_line (status.DiskFault after.disk_faults)) before after
  pub holds : HoldsEither opening all before after

-- the sink failed at the closing line of a group that was given up, for what the line says
pub record CutsGivenUp (Why : Status → Type 0) (opening : List Commit) (before after : Outside)
    : Type 0 where
  pub closing : Status
  pub why : Why closing
  pub prints : PrintsSome (closing_line closing) before after
  pub holds : HoldsJournal opening None before after

-- how such a command ends over these commits of its journal, where the group is not given up for a
-- fault of what is read
abbrev pub LeavesBy : (List Commit → List ℕ → Type 0) → List Commit → Outside → Outside → Status
    → Type 0
LeavesBy What opening before after status.Done = AppendsAll What before after
LeavesBy What opening before after status.NoMemory =
    PrintsNothing before after × HoldsJournal opening None before after
LeavesBy What opening before after status.Usage = ⊥
LeavesBy What opening before after (status.SourceFault faults) = ⊥
LeavesBy What opening before after (status.SinkFault faults) =
    (faults ≡ after.sink_faults)
    × (CutsText What before after ⊎ CutsFailed What opening before after)
LeavesBy What opening before after (status.DiskFault faults) =
    (faults ≡ after.disk_faults) × AppendFails What opening (status.DiskFault faults) before after
LeavesBy What opening before after (status.ScriptFault f) = ⊥
LeavesBy What opening before after (status.NotInitialised len) = ⊥
LeavesBy What opening before after (status.AlreadyInitialised len) = ⊥
LeavesBy What opening before after (status.Damaged at) = ⊥
LeavesBy What opening before after (status.PacketFault at) = ⊥
LeavesBy What opening before after (status.WatchFault f) = ⊥
LeavesBy What opening before after (status.StatementRefused number) = ⊥
