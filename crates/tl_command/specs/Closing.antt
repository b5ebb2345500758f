-- How a command closes: what it writes last, and why a journal was not opened or made.
use Rattle.std.specs.Prelude.{◌≡◌, ◌⊎◌, ℕ, Bool, true, false, ◌<◌, ◌≤◌, List, [], ◌++◌, length, take, Some, None, IfSome}
use Rattle.std.specs.declared.option.Option.{Option}
use Rattle.tl_types.specs.declared.commits.Commit.{Commit}
use Rattle.tl_types.specs.Limits.{standard_limits}
use Rattle.tl_device.specs.Known.{append_known, Rose}
use Rattle.tl_device.specs.Disk.{Only}
use Rattle.tl_journal.specs.Answers.{CountsFaults, IsTooShort, IsTooLong, IsDeviceOrMemory}
use Rattle.tl_journal.specs.Image.{ImageStandsFor}
use Rattle.tl_journal.specs.Moments.{IsShort, OldOr}
use Rattle.tl_journal.specs.Stands.{empty_journal}
use Rattle.tl_journal.specs.declared.faults.JournalFault.{JournalFault}
use Rattle.tl_journal.specs.declared.faults.JournalFault.TheVariants as journal
use Rattle.tl_types.specs.Legality.{FitInTurn}
use Rattle.tl_replay.specs.Fitting.{IsDamaged}
use Rattle.tl_command.specs.declared.statuses.Status.{Status}
use Rattle.tl_command.specs.declared.statuses.Status.TheVariants as status
use Rattle.tl_command.specs.declared.stops.Stop.{Stop}
use Rattle.tl_command.specs.declared.stops.Stop.TheVariants as stop
use Rattle.tl_command.specs.Status.{closing_line}
use Rattle.tl_command.specs.Outside.{Outside, IsUnread, IsSameDisk, LeavesNoLess, DiskAsBefore, DiskDurable, DiskTrimmed, KeepsJournal}

-- THE SINK

-- nothing was written, and the run ended so
abbrev pub WritesNothing : Status → Option (List ℕ) → Option (List ℕ) → ℕ → ℕ → Status → Type 0
WritesNothing wanted old new before after ended =
    (ended ≡ wanted) × (new ≡ old) × (after ≡ before)

-- the sink failed behind some prefix of the bytes
abbrev pub SinkFails : List ℕ → Option (List ℕ) → Option (List ℕ) → ℕ → ℕ → Status → Type 0
SinkFails bytes old new before after ended =
    (ended ≡ status.SinkFault after) × Rose before after
    × ((n : ℕ) × (new ≡ append_known old (take n bytes)))

-- bytes are written for which there was room, and the command ends as it was to; or the sink failed
abbrev pub WritesReady : List ℕ → Status → Option (List ℕ) → Option (List ℕ) → ℕ → ℕ → Status
    → Type 0
WritesReady bytes wanted old new before after ended =
    ((ended ≡ wanted) × (new ≡ append_known old bytes) × (after ≡ before))
    ⊎ SinkFails bytes old new before after ended

-- Bytes are written, and the run ends as it was to; or memory ran out before the first of them; or
-- the sink failed. What was written and the count of faults are given before and after.
abbrev pub Writes : List ℕ → Status → Option (List ℕ) → Option (List ℕ) → ℕ → ℕ → Status → Type 0
Writes bytes wanted old new before after ended =
    ((ended ≡ wanted) × (new ≡ append_known old bytes) × (after ≡ before))
    ⊎ (WritesNothing status.NoMemory old new before after ended
    ⊎ SinkFails bytes old new before after ended)

-- replies are written, and the closing line after them
abbrev pub Closes : List ℕ → Status → Option (List ℕ) → Option (List ℕ) → ℕ → ℕ → Status → Type 0
Closes replies wanted old new before after ended =
    Writes (replies ++ closing_line wanted) wanted old new before after ended

-- the run ended so, and nothing was written
abbrev pub EndsSilent : Status → Outside → Outside → Status → Type 0
EndsSilent wanted before after ended =
    WritesNothing wanted before.written after.written before.sink_faults after.sink_faults ended

-- how a run ends that was to end so, once its closing line is written or not
abbrev pub ended_by : Option Stop → Status → Status
ended_by None wanted = wanted
ended_by (Some stop.Ended) wanted = status.NoMemory
ended_by (Some (stop.Fault f)) wanted = status.NoMemory
ended_by (Some (stop.Source faults)) wanted = status.NoMemory
ended_by (Some (stop.Sink faults)) wanted = status.SinkFault faults
ended_by (Some stop.NoMemory) wanted = status.NoMemory

-- THE JOURNAL

-- how a run ends whose journal is not opened or made
abbrev pub status_for : JournalFault → Status
status_for journal.NoMemory = status.NoMemory
status_for (journal.Device faults) = status.DiskFault faults
status_for (journal.NotInitialised len) = status.NotInitialised len
status_for (journal.AlreadyInitialised len) = status.AlreadyInitialised len
status_for (journal.Damaged at) = status.Damaged at

-- nothing is written where memory ran out, and else the closing line
abbrev pub EndsFor : JournalFault → Option (List ℕ) → Option (List ℕ) → ℕ → ℕ → Status → Type 0
EndsFor journal.NoMemory old new before after ended =
    WritesNothing status.NoMemory old new before after ended
EndsFor (journal.Device faults) old new before after ended =
    Closes [] (status.DiskFault faults) old new before after ended
EndsFor (journal.NotInitialised len) old new before after ended =
    Closes [] (status.NotInitialised len) old new before after ended
EndsFor (journal.AlreadyInitialised len) old new before after ended =
    Closes [] (status.AlreadyInitialised len) old new before after ended
EndsFor (journal.Damaged at) old new before after ended =
    Closes [] (status.Damaged at) old new before after ended

-- why a journal is not opened
abbrev pub RefusedBy : JournalFault → Outside → Outside → Type 0
RefusedBy journal.NoMemory before after = DiskAsBefore before after ⊎ DiskTrimmed before after
RefusedBy (journal.Device faults) before after = Unit {0}
RefusedBy (journal.NotInitialised len) before after =
    (len < 17) × IfSome before.reads (IsTooShort len) × IsSameDisk before after
    × LeavesNoLess before after
RefusedBy (journal.AlreadyInitialised len) before after = ⊥
RefusedBy (journal.Damaged at) before after =
    IfSome before.reads (IsDamaged standard_limits at) × IsSameDisk before after
    × DiskDurable before after

-- the journal was not opened, for this fault; the source is unread
pub record EndsRefused (before after : Outside) (ended : Status) : Type 0 where
  pub fault : JournalFault
  pub refused : RefusedBy fault before after
  pub counts : CountsFaults fault before.disk_faults after.disk_faults
  pub unread : IsUnread before after
  pub keeps : KeepsJournal before after
  -- a journal of commits that fit one after the other is refused for memory or a fault of the disk
  pub honest : (b : List ℕ) (cs : List Commit) → before.reads ≡ Some b → ImageStandsFor cs b
      → FitInTurn standard_limits cs → IsDeviceOrMemory fault
  pub ends : EndsFor fault before.written after.written before.sink_faults after.sink_faults ended

-- a crash leaves what it could before, or at most as many bytes as the empty journal has
abbrev pub MayBeShort : Outside → Outside → Type 0
MayBeShort before after =
    (b : List ℕ) → before.reads ≡ Some b
    → (c : List ℕ) → after.may_leave c → OldOr before.may_leave IsShort c

-- why a journal is not made
abbrev pub NotMadeBy : JournalFault → Outside → Outside → Type 0
NotMadeBy journal.NoMemory before after = DiskAsBefore before after
NotMadeBy (journal.Device faults) before after = MayBeShort before after
NotMadeBy (journal.NotInitialised len) before after = ⊥
NotMadeBy (journal.AlreadyInitialised len) before after =
    (17 < len) × IfSome before.reads (IsTooLong len) × IsSameDisk before after
    × LeavesNoLess before after
NotMadeBy (journal.Damaged at) before after = ⊥

-- the journal was not made, for this fault
pub record MakingFails (before after : Outside) (ended : Status) : Type 0 where
  pub fault : JournalFault
  pub refused : NotMadeBy fault before after
  pub counts : CountsFaults fault before.disk_faults after.disk_faults
  pub ends : EndsFor fault before.written after.written before.sink_faults after.sink_faults ended

-- the disk, of at most 17 bytes, is now the empty journal, and stays it in a crash
abbrev pub IsMade : Outside → Outside → Type 0
IsMade before after =
    (b : List ℕ) → before.reads ≡ Some b
    → (length b ≤ 17) × (after.reads ≡ Some empty_journal) × Only empty_journal after.may_leave

-- the journal was made, and nothing is written to the sink
pub record MakesJournal (before after : Outside) (ended : Status) : Type 0 where
  pub ends : EndsSilent status.Done before after ended
  pub sure : after.disk_faults ≡ before.disk_faults
  pub made : IsMade before after

-- how the making of a journal ends
abbrev pub InitEnds : Outside → Outside → Status → Type 0
InitEnds before after ended = MakesJournal before after ended ⊎ MakingFails before after ended

-- how a run is to end whose phases were all run: with a fault of the disk where a break came
abbrev pub wanted_by : Bool → ℕ → Status
wanted_by false faults = status.Done
wanted_by true faults = status.DiskFault faults

-- What closes a run behind its replies, by why its phases stopped, whether a break came, and the
-- disk's count of faults: a closing line, but for the faults of the sink and being out of memory.
-- What is written and the sink's count are given before and after.
abbrev pub ClosesAfter : Stop → Bool → ℕ → Option (List ℕ) → Option (List ℕ) → ℕ → ℕ → Status
    → Type 0
ClosesAfter stop.Ended broke faults old new before after ended =
    Closes [] (wanted_by broke faults) old new before after ended
ClosesAfter (stop.Fault f) broke faults old new before after ended =
    Closes [] (status.ScriptFault f) old new before after ended
ClosesAfter (stop.Source n) broke faults old new before after ended =
    Closes [] (status.SourceFault n) old new before after ended
ClosesAfter (stop.Sink n) broke faults old new before after ended =
    WritesNothing (status.SinkFault n) old new before after ended
ClosesAfter stop.NoMemory broke faults old new before after ended =
    WritesNothing status.NoMemory old new before after ended
