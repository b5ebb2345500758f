-- What the append of a group and the writing behind it leave, and what closes a play that was given
-- up.
use Rattle.std.specs.Prelude.{◌≡◌, ◌⊎◌, ℕ, false, List, Option, Some}
use Rattle.tl_device.specs.Known.{Rose}
use Rattle.tl_device.specs.declared.disk.Disk.{Ghosts as DiskGhosts}
use Rattle.tl_device.specs.declared.sink.Sink.{Ghosts as SinkGhosts}
use Rattle.tl_journal.specs.Image.{NoneOrAll}
use Rattle.tl_journal.specs.Stands.{DiskStandsFor}
use Rattle.tl_group.specs.Keeping.{commits_in, journal_commits, waiting_commits}
use Rattle.tl_group.specs.Plain as group
use Rattle.tl_group.specs.Standing.{DiskStandsForGroup}
use Rattle.tl_command.specs.declared.statuses.Status.{Status}
use Rattle.tl_command.specs.declared.statuses.Status.TheVariants as status
use Rattle.tl_command.specs.Closing.{Closes, ClosesAfter, WritesReady}
use Rattle.tl_command.specs.Status.{closing_line}
use Rattle.tl_commands.specs.declared.playing.Cause.{Cause}
use Rattle.tl_commands.specs.declared.playing.Cause.TheVariants as cause

-- a group as it was opened over a disk: none of its commits waits, the count of faults has not
-- risen, and where the disk told its bytes it stands for the group
pub record IsAttached {D : Type 0} (disks : DiskGhosts D) (begun : D) (group : group.Group D)
    : Type 0 where
  pub journal_is : journal_commits group ≡ commits_in group
  pub count_same : disks.faults group.journal.disk ≡ disks.faults begun
  pub stands : (b : List ℕ) → disks.reads begun ≡ Some b
      → DiskStandsForGroup disks.reads disks.may_leave group

-- all that waited is on the disk, also in a crash
pub record IsAppended {D : Type 0} (disks : DiskGhosts D) (group : group.Group D) (disk : D)
    : Type 0 where
  pub count_same : disks.faults disk ≡ disks.faults group.journal.disk
  pub stands : DiskStandsForGroup disks.reads disks.may_leave group
      → (gate : ℕ) × DiskStandsFor disks.reads disks.may_leave disk (commits_in group) gate

-- the disk failed: what waited is on it as a whole, or none of it
pub record IsInDoubt {D : Type 0} (disks : DiskGhosts D) (group : group.Group D) (disk : D)
    : Type 0 where
  pub rose : Rose (disks.faults group.journal.disk) (disks.faults disk)
  pub leaves : DiskStandsForGroup disks.reads disks.may_leave group
      → (image : List ℕ) → disks.may_leave disk image
      → NoneOrAll (journal_commits group) (waiting_commits group) image
  pub reads : DiskStandsForGroup disks.reads disks.may_leave group
      → (image : List ℕ) × (disks.reads disk ≡ Some image)
      × NoneOrAll (journal_commits group) (waiting_commits group) image

-- the sink had no memory for its room, and the disk is as it was
abbrev pub GivesUp : {K D : Type 0} → SinkGhosts K → group.Group D → K → K → D → Status → Type 0
GivesUp sinks group old new disk ended =
    (ended ≡ status.NoMemory) × (disk ≡ group.journal.disk)
    × (sinks.written new ≡ sinks.written old) × (sinks.faults new ≡ sinks.faults old)

-- all is appended, and the text is written
abbrev pub AppendsAll : {K D : Type 0} → SinkGhosts K → DiskGhosts D → group.Group D → List ℕ
    → K → K → D → Status → Type 0
AppendsAll sinks disks group text old new disk ended =
    IsAppended disks group disk
    × WritesReady text status.Done (sinks.written old) (sinks.written new) (sinks.faults old)
    (sinks.faults new) ended

-- the disk failed, and its line is written
abbrev pub AppendFails : {K D : Type 0} → SinkGhosts K → DiskGhosts D → group.Group D → K → K → D
    → Status → Type 0
AppendFails sinks disks group old new disk ended =
    IsInDoubt disks group disk
    × WritesReady (closing_line (status.DiskFault (disks.faults disk)))
    (status.DiskFault (disks.faults disk)) (sinks.written old) (sinks.written new)
    (sinks.faults old) (sinks.faults new) ended

-- what the append of a group comes to
abbrev pub AppendsAndWrites : {K D : Type 0} → SinkGhosts K → DiskGhosts D → group.Group D → List ℕ
    → K → K → D → Status → Type 0
AppendsAndWrites sinks disks group text old new disk ended =
    GivesUp sinks group old new disk ended
    ⊎ (AppendsAll sinks disks group text old new disk ended
    ⊎ AppendFails sinks disks group old new disk ended)

-- what closes a play that was given up: the closing line of why its phases stopped; or the replies
-- of one that a refusal ended, and the line with their number
abbrev pub ClosesPlay : Cause → Option (List ℕ) → Option (List ℕ) → ℕ → ℕ → Status → Type 0
ClosesPlay (cause.Stop why) old new before after ended =
    ClosesAfter why false 0 old new before after ended
ClosesPlay (cause.Refusal replies) old new before after ended =
    Closes replies.text.items (status.StatementRefused replies.count) old new before after ended
