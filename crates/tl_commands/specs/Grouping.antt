-- How `group` and `transact` end, and what they leave outside. C are the commits of the opening, G
-- those that the script's jobs make of them, done one after the other. By status:
--
--   status                    written                              the disk stands for
--   Done                      the replies                          C and G, also in a crash
--   NoMemory                  nothing                              C
--   SourceFault, ScriptFault  the closing line                     C
--   SinkFault                 first bytes of the replies, or of    C, or C and G
--                             what was to close
--   DiskFault                 the closing line                     C, or C and G; where it came in
--                                                                  opening, as for a run
--   StatementRefused          the replies up to that of the        C
--                             statement, and the closing line
--   NotInitialised, Damaged   as for a run that is not opened
--
-- `group` goes on at a statement that is refused, and so it never ends with StatementRefused.
-- `transact` ends there (`stops`): at Done no statement is refused, and at SourceFault and
-- ScriptFault none of the phases before the fault. At StatementRefused the source is asked for no
-- more bytes once a phase with a refusal is whole.
use Rattle.std.specs.Prelude.{◌≡◌, ◌⊎◌, ℕ, Bool, true, false, List, ◌++◌, Option, None}
use Rattle.tl_types.specs.declared.commits.Commit.{Commit}
use Rattle.tl_device.specs.Known.{Rose}
use Rattle.tl_script.specs.Script.{ScriptReading}
use Rattle.tl_command.specs.declared.statuses.Status.{Status}
use Rattle.tl_command.specs.declared.statuses.Status.TheVariants as status
use Rattle.tl_command.specs.Closing.{EndsRefused}
use Rattle.tl_command.specs.Outside.{Outside, HoldsJournal, OpensWith}
use Rattle.tl_command.specs.Status.{closing_line}
use Rattle.tl_commands.specs.Leaving.{CutsGivenUp, IsGivenUp, LeavesBy, Prints, PrintsSome}
use Rattle.tl_commands.specs.Playing.{EndsAtRefusal, PlaysScript, HasFault, HasNoFaultSoFar}
use Rattle.tl_watch.specs.declared.plans.WatchPlan.{WatchPlan}

-- the script was read to its end and has no fault; its jobs, done one after the other from the
-- commits of the opening to all, have these replies, with what is told of a plan where there is
-- one; where a refusal ends the play none of them is refused
abbrev pub Plays : Bool → Option WatchPlan → (Bool → List ℕ → ScriptReading) → List Commit
    → List Commit → List ℕ → Outside → Outside → Type 0
Plays stops plan reads opening all text before after =
    PlaysScript stops plan (reads true) opening all text before.left after.left
    × (after.source_faults ≡ before.source_faults)

-- why a group was given up: the script has a fault, or the source failed before one was read, and
-- no statement of the phases before that ended the play
abbrev pub WhyGivenUp : Bool → (Bool → List ℕ → ScriptReading) → List Commit → Outside → Outside
    → Status → Type 0
WhyGivenUp stops reads opening before after (status.ScriptFault f) =
    HasFault stops (reads true) opening f before.left
    × (after.source_faults ≡ before.source_faults)
WhyGivenUp stops reads opening before after (status.SourceFault faults) =
    HasNoFaultSoFar stops (reads false) opening before.left after.left
    × Rose before.source_faults after.source_faults × (faults ≡ after.source_faults)
WhyGivenUp stops reads opening before after status.Done = ⊥
WhyGivenUp stops reads opening before after status.NoMemory = ⊥
WhyGivenUp stops reads opening before after status.Usage = ⊥
WhyGivenUp stops reads opening before after (status.SinkFault faults) = ⊥
WhyGivenUp stops reads opening before after (status.DiskFault faults) = ⊥
WhyGivenUp stops reads opening before after (status.NotInitialised len) = ⊥
WhyGivenUp stops reads opening before after (status.AlreadyInitialised len) = ⊥
WhyGivenUp stops reads opening before after (status.Damaged at) = ⊥
WhyGivenUp stops reads opening before after (status.PacketFault at) = ⊥
WhyGivenUp stops reads opening before after (status.WatchFault f) = ⊥
WhyGivenUp stops reads opening before after (status.StatementRefused number) = ⊥

-- The group was given up at the statement with this number, which is refused and ends the play: the
-- replies up to its own and the closing line were written as `IsPrinted` says, and the disk holds
-- what it had.
pub record GivesUpAtRefusal (stops : Bool) (plan : Option WatchPlan)
    (reads : Bool → List ℕ → ScriptReading) (opening : List Commit) (number : ℕ)
    (IsPrinted : List ℕ → Type 0) (before after : Outside) : Type 0 where
  pub text : List ℕ
  pub plays : EndsAtRefusal stops plan reads opening text number before.left after.left
  pub sure : after.source_faults ≡ before.source_faults
  pub prints : IsPrinted (text ++ closing_line (status.StatementRefused number))
  pub holds : HoldsJournal opening None before after

-- the sink failed at these replies, or at the line behind them
abbrev pub CutsRefusal : Bool → Option WatchPlan → (Bool → List ℕ → ScriptReading) → List Commit
    → Outside → Outside → Type 0
CutsRefusal stops plan reads opening before after =
    (number : ℕ)
    × GivesUpAtRefusal stops plan reads opening number (λ bytes. PrintsSome bytes before after)
    before after

-- how a group ends that was opened with these commits, of which a plan is told or none, and whose
-- play a refusal ends or not
abbrev pub GroupEndsBy : Bool → Option WatchPlan → (Bool → List ℕ → ScriptReading) → List Commit
    → Outside → Outside → Status → Type 0
GroupEndsBy stops plan reads opening before after (status.ScriptFault f) =
    WhyGivenUp stops reads opening before after (status.ScriptFault f)
    × IsGivenUp opening (status.ScriptFault f) before after
GroupEndsBy stops plan reads opening before after (status.SourceFault faults) =
    WhyGivenUp stops reads opening before after (status.SourceFault faults)
    × IsGivenUp opening (status.SourceFault faults) before after
GroupEndsBy stops plan reads opening before after (status.StatementRefused number) =
    GivesUpAtRefusal stops plan reads opening number (λ bytes. Prints bytes before after)
    before after
GroupEndsBy stops plan reads opening before after (status.SinkFault faults) =
    LeavesBy (λ all text. Plays stops plan reads opening all text before after) opening before
    after (status.SinkFault faults)
    ⊎ ((faults ≡ after.sink_faults)
    × (CutsGivenUp (WhyGivenUp stops reads opening before after) opening before after
    ⊎ CutsRefusal stops plan reads opening before after))
GroupEndsBy stops plan reads opening before after status.Done =
    LeavesBy (λ all text. Plays stops plan reads opening all text before after) opening before
    after status.Done
GroupEndsBy stops plan reads opening before after status.NoMemory =
    LeavesBy (λ all text. Plays stops plan reads opening all text before after) opening before
    after status.NoMemory
GroupEndsBy stops plan reads opening before after status.Usage =
    LeavesBy (λ all text. Plays stops plan reads opening all text before after) opening before
    after status.Usage
GroupEndsBy stops plan reads opening before after (status.DiskFault faults) =
    LeavesBy (λ all text. Plays stops plan reads opening all text before after) opening before
    after (status.DiskFault faults)
GroupEndsBy stops plan reads opening before after (status.NotInitialised len) =
    LeavesBy (λ all text. Plays stops plan reads opening all text before after) opening before
    after (status.NotInitialised len)
GroupEndsBy stops plan reads opening before after (status.AlreadyInitialised len) =
    LeavesBy (λ all text. Plays stops plan reads opening all text before after) opening before
    after (status.AlreadyInitialised len)
GroupEndsBy stops plan reads opening before after (status.Damaged at) =
    LeavesBy (λ all text. Plays stops plan reads opening all text before after) opening before
    after (status.Damaged at)
GroupEndsBy stops plan reads opening before after (status.PacketFault at) =
    LeavesBy (λ all text. Plays stops plan reads opening all text before after) opening before
    after (status.PacketFault at)
GroupEndsBy stops plan reads opening before after (status.WatchFault f) =
    LeavesBy (λ all text. Plays stops plan reads opening all text before after) opening before
    after (status.WatchFault f)

-- the same, with what was opened
pub record GroupOpened (stops : Bool) (plan : Option WatchPlan)
    (reads : Bool → List ℕ → ScriptReading) (opening : List Commit) (before after : Outside)
    (ended : Status) : Type 0 where
  pub opens : OpensWith opening before
  pub ends : GroupEndsBy stops plan reads opening before after ended

-- how a script ends whose commits are appended at once: its journal is not opened, as for a run; or
-- it is, and no plan is told
abbrev pub ScriptEnds : Bool → (Bool → List ℕ → ScriptReading) → Outside → Outside → Status → Type 0
ScriptEnds stops reads before after ended =
    EndsRefused before after ended
    ⊎ ((opening : List Commit) × GroupOpened stops None reads opening before after ended)

-- how `group` ends: no refusal ends its play
abbrev pub GroupEnds : (Bool → List ℕ → ScriptReading) → Outside → Outside → Status → Type 0
GroupEnds reads before after ended = ScriptEnds false reads before after ended

-- how `transact` ends: the first refusal ends its play
abbrev pub TransactEnds : (Bool → List ℕ → ScriptReading) → Outside → Outside → Status → Type 0
TransactEnds reads before after ended = ScriptEnds true reads before after ended
