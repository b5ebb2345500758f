-- How `follow` ends, and what it leaves outside. C are the commits of the opening, and all are what
-- the source's packets make of them. By status:
--
--   status                    written                              the disk stands for
--   Done                      a line with the number of all         all, also in a crash
--   NoMemory                  nothing                              C
--   SourceFault, PacketFault  the closing line                     C
--   SinkFault                 first bytes of a line                C, or all
--   DiskFault                 the closing line                     C, or all; where it came in
--                                                                  opening, as for a run
--   NotInitialised, Damaged   as for a run that is not opened
use Rattle.std.specs.Prelude.{◌≡◌, ◌≢◌, ◌⊎◌, ℕ, ◌<◌, ◌≤◌, List, [], ◌++◌, length, codes, Option, Some, None, IfSome}
use Rattle.std.specs.Fmt.{decimal}
use Rattle.tl_types.specs.declared.commits.Commit.{Commit}
use Rattle.tl_types.specs.declared.commits.Entry.{Entry}
use Rattle.tl_types.specs.Limits.{standard_limits}
use Rattle.tl_device.specs.Known.{Rose, prepend_known}
use Rattle.tl_device.specs.declared.disk.Disk.{Ghosts as DiskGhosts}
use Rattle.tl_device.specs.declared.sink.Sink.{Ghosts as SinkGhosts}
use Rattle.tl_script.specs.Taking.{IsAtEnd}
use Rattle.tl_group.specs.Keeping.{commits_in}
use Rattle.tl_group.specs.Plain as group
use Rattle.tl_group.specs.Standing.{IsGivenBack}
use Rattle.tl_follow.specs.declared.inputs.PacketReader.{PacketReader}
use Rattle.tl_follow.specs.declared.packets.Packet.{Packet}
use Rattle.tl_follow.specs.Following.{followed}
use Rattle.tl_follow.specs.Inputs.{IsInput, FollowsInput, input_fault, input_limit}
use Rattle.tl_follow.specs.Readers.{IsRead}
use Rattle.tl_command.specs.declared.statuses.Status.{Status}
use Rattle.tl_command.specs.declared.statuses.Status.TheVariants as status
use Rattle.tl_command.specs.Closing.{EndsRefused}
use Rattle.tl_command.specs.Outside.{Outside, OpensWith}
use Rattle.tl_commands.specs.Appending.{AppendsAndWrites}
use Rattle.tl_commands.specs.Leaving.{CutsGivenUp, IsGivenUp, LeavesBy}
use Rattle.tl_commands.specs.Playing.{KeepsDisk}

-- the line that tells how many commits there are
abbrev pub follow_line : ℕ → List ℕ
follow_line n = codes "follow @" ++ (decimal n ++ codes "\n")

-- THE INPUT

-- these bytes are the whole input, and were taken
abbrev pub TakesBytes : List ℕ → Option (List ℕ) → Option (List ℕ) → Type 0
TakesBytes bytes before after =
    (length bytes ≤ input_limit) × IfSome before (λ left. left ≡ bytes) × IsAtEnd after

-- the whole input was taken, and makes these commits behind those of the opening
abbrev pub TakesCommits : List Commit → Option (List ℕ) → Option (List ℕ) → List Commit → Type 0
TakesCommits opening before after commits =
    (bytes : List ℕ) × TakesBytes bytes before after
    × FollowsInput standard_limits opening bytes commits

-- the input has more bytes than it may have
abbrev pub IsTooLong : Option (List ℕ) → Type 0
IsTooLong before = IfSome before (λ left. input_limit < length left)

-- the input has more bytes than it may have, or it has a fault, at this offset
abbrev pub HasInputFault : List Commit → ℕ → Option (List ℕ) → Type 0
HasInputFault opening at before =
    ((at ≡ input_limit) × IsTooLong before)
    ⊎ ((bytes : List ℕ) × (packets : List Packet) × (rest : List ℕ)
    × IfSome before (λ left. left ≡ bytes) × IsInput bytes packets rest
    × (input_fault standard_limits opening bytes packets rest ≡ Some at))

-- a reader was given what the source had and has no more
abbrev pub ReadsFront : List Entry → Option (List ℕ) → PacketReader → Option (List ℕ) → Type 0
ReadsFront entries before reader after =
    (bytes : List ℕ) × IsRead standard_limits entries bytes reader
    × (before ≡ prepend_known bytes after)

-- a reader was given the whole input
abbrev pub ReadsWhole : List Entry → Option (List ℕ) → PacketReader → Option (List ℕ) → Type 0
ReadsWhole entries before reader after =
    (bytes : List ℕ) × IsRead standard_limits entries bytes reader
    × TakesBytes bytes before after

-- why no piece of the input was taken: memory ran out, or the source failed
abbrev pub FailsPiece : ℕ → ℕ → Status → Type 0
FailsPiece first last status.Done = ⊥
FailsPiece first last status.NoMemory = last ≡ first
FailsPiece first last status.Usage = ⊥
FailsPiece first last (status.SourceFault faults) = (faults ≡ last) × Rose first last
FailsPiece first last (status.SinkFault faults) = ⊥
FailsPiece first last (status.DiskFault faults) = ⊥
FailsPiece first last (status.ScriptFault f) = ⊥
FailsPiece first last (status.NotInitialised len) = ⊥
FailsPiece first last (status.AlreadyInitialised len) = ⊥
FailsPiece first last (status.Damaged at) = ⊥
FailsPiece first last (status.PacketFault at) = ⊥
FailsPiece first last (status.WatchFault f) = ⊥
FailsPiece first last (status.StatementRefused number) = ⊥

-- why the bytes of the input were not taken: memory ran out, the source failed, or there are more
-- than there may be
abbrev pub FailsBytes : Option (List ℕ) → ℕ → ℕ → Status → Type 0
FailsBytes before first last status.Done = ⊥
FailsBytes before first last status.NoMemory = last ≡ first
FailsBytes before first last status.Usage = ⊥
FailsBytes before first last (status.SourceFault faults) = (faults ≡ last) × Rose first last
FailsBytes before first last (status.SinkFault faults) = ⊥
FailsBytes before first last (status.DiskFault faults) = ⊥
FailsBytes before first last (status.ScriptFault f) = ⊥
FailsBytes before first last (status.NotInitialised len) = ⊥
FailsBytes before first last (status.AlreadyInitialised len) = ⊥
FailsBytes before first last (status.Damaged at) = ⊥
FailsBytes before first last (status.PacketFault at) =
    (at ≡ input_limit) × IsTooLong before × (last ≡ first)
FailsBytes before first last (status.WatchFault f) = ⊥
FailsBytes before first last (status.StatementRefused number) = ⊥

-- why no commits were made of the input: memory ran out, the source failed, or it has a fault
abbrev pub FailsInput : List Commit → Option (List ℕ) → ℕ → ℕ → Status → Type 0
FailsInput opening before first last status.Done = ⊥
FailsInput opening before first last status.NoMemory = last ≡ first
FailsInput opening before first last status.Usage = ⊥
FailsInput opening before first last (status.SourceFault faults) =
    (faults ≡ last) × Rose first last
FailsInput opening before first last (status.SinkFault faults) = ⊥
FailsInput opening before first last (status.DiskFault faults) = ⊥
FailsInput opening before first last (status.ScriptFault f) = ⊥
FailsInput opening before first last (status.NotInitialised len) = ⊥
FailsInput opening before first last (status.AlreadyInitialised len) = ⊥
FailsInput opening before first last (status.Damaged at) = ⊥
FailsInput opening before first last (status.PacketFault at) =
    HasInputFault opening at before × (last ≡ first)
FailsInput opening before first last (status.WatchFault f) = ⊥
FailsInput opening before first last (status.StatementRefused number) = ⊥

-- why the group is given up for what a line tells: the same but for want of memory, at which
-- nothing is written
abbrev pub WhyFollowFails : List Commit → Option (List ℕ) → ℕ → ℕ → Status → Type 0
WhyFollowFails opening before first last ended =
    (ended ≢ status.NoMemory) × FailsInput opening before first last ended

-- THE GROUP

-- memory ran out before the append: nothing is written, and the disk is handed back
abbrev pub GivesBack : {K D : Type 0} → SinkGhosts K → DiskGhosts D → group.Group D → K → K → D
    → Status → Type 0
GivesBack sinks disks group old new disk ended =
    (ended ≡ status.NoMemory)
    × IsGivenBack disks.reads disks.may_leave disks.faults group disk
    × (sinks.written new ≡ sinks.written old) × (sinks.faults new ≡ sinks.faults old)

-- the commits wait behind those of a group, and are appended with the line that tells how many
-- there are then
pub record AppendsMore {K D : Type 0} (sinks : SinkGhosts K) (disks : DiskGhosts D)
    (first : group.Group D) (commits : List Commit) (old new : K) (disk : D) (ended : Status)
    : Type 0 where
  pub later : group.Group D
  pub keeps : KeepsDisk disks first later
  pub all : commits_in later ≡ commits_in first ++ commits
  pub writes : AppendsAndWrites sinks disks later (follow_line (length (commits_in later))) old new
      disk ended

-- the group is given up for want of memory, or the commits are appended
abbrev pub Extends : {K D : Type 0} → SinkGhosts K → DiskGhosts D → group.Group D → List Commit
    → K → K → D → Status → Type 0
Extends sinks disks first commits old new disk ended =
    GivesBack sinks disks first old new disk ended
    ⊎ AppendsMore sinks disks first commits old new disk ended

-- THE COMMAND

-- all commits are what the packets of the whole input make of those of the opening, and the text
-- tells how many they are
abbrev pub Follows : List Commit → List Commit → List ℕ → Outside → Outside → Type 0
Follows opening all text before after =
    (bytes : List ℕ) × (packets : List Packet) × IfSome before.left (λ left. left ≡ bytes)
    × IsAtEnd after.left × IsInput bytes packets []
    × (input_fault standard_limits opening bytes packets [] ≡ None)
    × (all ≡ followed standard_limits opening packets) × (text ≡ follow_line (length all))
    × (after.source_faults ≡ before.source_faults)

-- how it ends over a journal that was opened with these commits
abbrev pub FollowEndsBy : List Commit → Outside → Outside → Status → Type 0
FollowEndsBy opening before after (status.PacketFault at) =
    HasInputFault opening at before.left × (after.source_faults ≡ before.source_faults)
    × IsGivenUp opening (status.PacketFault at) before after
FollowEndsBy opening before after status.Done =
    LeavesBy (λ all text. Follows opening all text before after) opening before after status.Done
FollowEndsBy opening before after status.NoMemory =
    LeavesBy (λ all text. Follows opening all text before after) opening before after
    status.NoMemory
FollowEndsBy opening before after status.Usage =
    LeavesBy (λ all text. Follows opening all text before after) opening before after status.Usage
FollowEndsBy opening before after (status.SourceFault faults) =
    (faults ≡ after.source_faults) × Rose before.source_faults after.source_faults
    × IsGivenUp opening (status.SourceFault faults) before after
FollowEndsBy opening before after (status.SinkFault faults) =
    LeavesBy (λ all text. Follows opening all text before after) opening before after
    (status.SinkFault faults)
    ⊎ ((faults ≡ after.sink_faults)
    × CutsGivenUp (WhyFollowFails opening before.left before.source_faults after.source_faults)
    opening before after)
FollowEndsBy opening before after (status.DiskFault faults) =
    LeavesBy (λ all text. Follows opening all text before after) opening before after
    (status.DiskFault faults)
FollowEndsBy opening before after (status.ScriptFault f) =
    LeavesBy (λ all text. Follows opening all text before after) opening before after
    (status.ScriptFault f)
FollowEndsBy opening before after (status.NotInitialised len) =
    LeavesBy (λ all text. Follows opening all text before after) opening before after
    (status.NotInitialised len)
FollowEndsBy opening before after (status.AlreadyInitialised len) =
    LeavesBy (λ all text. Follows opening all text before after) opening before after
    (status.AlreadyInitialised len)
FollowEndsBy opening before after (status.Damaged at) =
    LeavesBy (λ all text. Follows opening all text before after) opening before after
    (status.Damaged at)
FollowEndsBy opening before after (status.WatchFault f) =
    LeavesBy (λ all text. Follows opening all text before after) opening before after
    (status.WatchFault f)
FollowEndsBy opening before after (status.StatementRefused number) =
    LeavesBy (λ all text. Follows opening all text before after) opening before after
    (status.StatementRefused number)

-- the same, with what was opened
pub record FollowOpened (opening : List Commit) (before after : Outside) (ended : Status) : Type 0
  where
    pub opens : OpensWith opening before
    pub ends : FollowEndsBy opening before after ended

-- how `follow` ends: its journal is not opened, as for a run; or it is
abbrev pub FollowEnds : Outside → Outside → Status → Type 0
FollowEnds before after ended =
    EndsRefused before after ended
    ⊎ ((opening : List Commit) × FollowOpened opening before after ended)
