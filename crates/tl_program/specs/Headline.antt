-- What is proved of a run as a whole: when it is done, and what it prints and keeps then. By status
-- of a run over a journal, the field of `RunTells`, what it says, and where Ending.antt has why:
--
--   status        field         says                              in `OpenedEnds`
--   Done          done          `PrintsAll`                         `ends.why` Ended, no break
--   NoMemory      no_memory     `CutsByMemory`: `StopsAtOnce`,      not opened, NoMemory, or no
--                               `StopsInPhase`, `CutsClosing`,      memory for the closing line
--                               `CutsClosed`
--   SourceFault   source_fault  `PrintsClosed`                      Source
--   SinkFault     sink_fault    `CutsBySink`: `CutsOpening`,        not opened, Sink, or the sink
--                               `CutsReplies`, `CutsClosing`,       failed at the closing line
--                               `CutsClosed`
--   DiskFault     disk_fault    `FailsToOpen` or `PrintsBreak`      not opened, or Ended, a break
--   ScriptFault   script_fault  `PrintsToFault`                     Fault
--
-- Of Usage, NotInitialised, AlreadyInitialised and Damaged `Ends` says all.
use Rattle.std.specs.Prelude.{◌≡◌, ◌⊎◌, ℕ, ◌≤◌, Bool, true, false, List, [], ◌∷◌, ◌++◌, length, take, map, Some, None, Ok, is_some}
use Rattle.std.specs.declared.option.Option.{Option}
use mathlib.Core.List.{IsPrefix}
use Rattle.tl_types.specs.declared.commits.Commit.{Commit}
use Rattle.tl_types.specs.Limits.{standard_limits}
use Rattle.tl_device.specs.Known.{append_known, prepend_known, Rose}
use Rattle.tl_script.specs.declared.jobs.ScriptFault.{ScriptFault}
use Rattle.tl_script.specs.Script.{ScriptReading}
use Rattle.tl_jobs.specs.Jobs.{Job}
use Rattle.tl_jobs.specs.Play.{AreLonePhases, IsPlay}
use Rattle.tl_session.specs.Transcript.{Transcript, IsTranscript}
use Rattle.tl_jobs.specs.Turns.{Turn, meant}
use Rattle.tl_jobs.specs.Written.{IsPlayOf, all_jobs, jobs_of, turns_bytes, transcript_bytes}
use Rattle.tl_watch.specs.declared.plans.WatchPlan.{WatchPlan}
use Rattle.tl_commands.specs.Plans.{plan_reading}
use Rattle.tl_follow.specs.declared.packets.Packet.{Packet}
use Rattle.tl_follow.specs.Inputs.{IsInput, input_fault}
use Rattle.tl_journal.specs.Answers.{CountsFaults}
use Rattle.tl_journal.specs.Image.{ImageStandsFor}
use Rattle.tl_journal.specs.declared.faults.JournalFault.{JournalFault}
use Rattle.tl_types.specs.Legality.{FitInTurn}
use Rattle.tl_command.specs.declared.statuses.Status.{Status}
use Rattle.tl_command.specs.declared.statuses.Status.TheVariants as status
use Rattle.tl_program.specs.declared.commands.Command.{Command}
use Rattle.tl_program.specs.declared.commands.Command.TheVariants as command
use Rattle.tl_command.specs.Status.{closing_line}
use Rattle.tl_program.specs.Commands.{command_of}
use Rattle.tl_commands.specs.Runs.{put_text}
use Rattle.tl_command.specs.Coming.{script_reads, block_reads}
use Rattle.tl_command.specs.Jobs.{phases_asked}
use Rattle.tl_command.specs.Closing.{status_for, wanted_by, RefusedBy}
use Rattle.tl_commands.specs.Sample.{sample_reading}
use Rattle.tl_command.specs.Outside.{Outside, IsUnread, KeepsJournal, HoldsJournal}
use Rattle.tl_commands.specs.Stopping.{AreFronts}
use Rattle.tl_commands.specs.Refusing.{AreAccepted, EndInRefusal}

-- COMPLETENESS

-- the run is done, or memory ran out
abbrev pub IsDoneOrNoMemory : Status → Type 0
IsDoneOrNoMemory ended = (ended ≡ status.Done) ⊎ (ended ≡ status.NoMemory)

-- no count of faults rose
pub record StaysSure (before after : Outside) : Type 0 where
  pub source : Rose before.source_faults after.source_faults → ⊥
  pub sink : Rose before.sink_faults after.sink_faults → ⊥
  pub disk : Rose before.disk_faults after.disk_faults → ⊥

-- the disk tells its bytes, a journal of commits that fit one after the other
pub record IsHonest (before : Outside) : Type 0 where
  pub image : List ℕ
  pub commits : List Commit
  pub told : before.reads ≡ Some image
  pub stands : ImageStandsFor commits image
  pub fitting : FitInTurn standard_limits commits

-- the source tells a script in which no fault is read
pub record IsFaultless (reads : Bool → List ℕ → ScriptReading) (before : Outside) : Type 0 where
  pub script : List ℕ
  pub told : before.left ≡ Some script
  pub whole : (reads true script).fault ≡ None

-- the source tells packets to its end, and these come to no commit that does not fit behind the
-- first ones
pub record IsFollowed (start : List Commit) (before : Outside) : Type 0 where
  pub input : List ℕ
  pub packets : List Packet
  pub told : before.left ≡ Some input
  pub whole : IsInput input packets []
  pub faultless : input_fault standard_limits start input packets [] ≡ None

-- a script without a fault, over a journal, is run to its end where no count rises
abbrev pub RunCompletes : (Bool → List ℕ → ScriptReading) → Outside → Outside → Status → Type 0
RunCompletes reads before after ended =
    IsHonest before → IsFaultless reads before → StaysSure before after → IsDoneOrNoMemory ended

-- the text names a plan over these commits
abbrev pub NamesPlan : List ℕ → List Commit → Type 0
NamesPlan text commits = (plan : WatchPlan) × (plan_reading commits text ≡ Ok plan)

-- the jobs of the script, done one after the other over these commits, are all answered without a
-- refusal
pub record AcceptsAll (reading : ScriptReading) (opening : List Commit) : Type 0 where
  pub turns : List Turn
  pub all : List Commit
  pub jobs : jobs_of turns ≡ all_jobs (phases_asked reading.phases)
  pub play : IsPlay meant opening turns all
  pub accepted : AreAccepted turns

-- done so, the one with this number, from 1, is the first that is refused
pub record RefusesFirst (reading : ScriptReading) (opening : List Commit) (number : ℕ)
    : Type 0 where
  pub turns : List Turn
  pub all : List Commit
  pub later : List Job
  pub jobs : jobs_of turns ++ later ≡ all_jobs (phases_asked reading.phases)
  pub play : IsPlay meant opening turns all
  pub refusal : EndInRefusal turns
  pub counted : number ≡ length turns

-- a script without a fault, over a journal: where none of its statements is refused it is done; one
-- that is refused is told by its number; or memory runs out
abbrev pub TransactCompletes : (Bool → List ℕ → ScriptReading) → Outside → Outside → Status → Type 0
TransactCompletes reads before after ended =
    (honest : IsHonest before) → (script : IsFaultless reads before) → StaysSure before after
    → ((ended ≡ status.Done) × AcceptsAll (reads true script.script) honest.commits)
    ⊎ ((ended ≡ status.NoMemory)
    ⊎ ((number : ℕ) × (ended ≡ status.StatementRefused number)
    × RefusesFirst (reads true script.script) honest.commits number))

-- by what the words ask for: a journal is made of at most 17 bytes, a script is run to its end, and
-- so is a sample, which reads no script and uses no disk; of a watch the text names a plan
abbrev pub CompletesBy : Option Command → Outside → Outside → Status → Type 0
CompletesBy None before after ended = Unit {0}
CompletesBy (Some command.Init) before after ended =
    (b : List ℕ) → before.reads ≡ Some b → length b ≤ 17 → StaysSure before after
    → IsDoneOrNoMemory ended
CompletesBy (Some command.Run) before after ended =
    RunCompletes script_reads before after ended
CompletesBy (Some (command.Load table)) before after ended =
    RunCompletes (block_reads (put_text table)) before after ended
CompletesBy (Some (command.Sample lines start)) before after ended =
    StaysSure before after → IsDoneOrNoMemory ended
CompletesBy (Some command.Group) before after ended =
    RunCompletes script_reads before after ended
CompletesBy (Some (command.Ship from to)) before after ended =
    IsHonest before → StaysSure before after → IsDoneOrNoMemory ended
CompletesBy (Some command.Follow) before after ended =
    (honest : IsHonest before) → IsFollowed honest.commits before → StaysSure before after
    → IsDoneOrNoMemory ended
CompletesBy (Some (command.Watch text)) before after ended =
    (honest : IsHonest before) → NamesPlan text honest.commits → IsFaultless script_reads before
    → StaysSure before after → IsDoneOrNoMemory ended
CompletesBy (Some command.Transact) before after ended =
    TransactCompletes script_reads before after ended

-- Completeness: with the words of a command, what it wants of the disk and the source, and no count
-- that rises, the run is done, unless memory runs out; or, of `transact` alone, a statement is
-- refused.
abbrev pub Completes : List (List ℕ) → Outside → Outside → Status → Type 0
Completes words before after ended = CompletesBy (command_of words) before after ended

-- THE HEADLINE

-- A transcript of what is read was printed, from the opening's commits to all commits, with a break
-- or none, and this closing line behind it; the disk holds these commits, or also the break's.
-- Where nothing broke and each phase has jobs of one session, it is the play: the jobs done one
-- after the other.
pub record PrintsTranscript (reading : ScriptReading) (opening all : List Commit)
    (broke : Option Commit) (closing : Status) (before after : Outside) : Type 0 where
  pub bytes : List ℕ
  pub begins : IsPrefix opening all
  pub transcript : IsTranscript reading.names (phases_asked reading.phases) opening all broke bytes
  pub written : after.written ≡ append_known before.written (bytes ++ closing_line closing)
  pub holds : HoldsJournal all broke before after
  pub play : broke ≡ None → AreLonePhases (phases_asked reading.phases)
      → IsPlayOf reading.names (all_jobs (phases_asked reading.phases)) opening all bytes

-- the disk failed while the journal was opened: the closing line alone was written, nothing was
-- read, and the disk keeps its journal
pub record FailsToOpen (closing : Status) (before after : Outside) : Type 0 where
  pub rose : Rose before.disk_faults after.disk_faults
  pub unread : IsUnread before after
  pub written : after.written ≡ append_known before.written (closing_line closing)
  pub keeps : KeepsJournal before after

-- the script was read to its end, and a transcript without a break was printed
pub record PrintsAll (reading : ScriptReading) (opening : List Commit) (before after : Outside)
    : Type 0 where
  pub faultless : reading.fault ≡ None
  pub read : after.left ≡ Some []
  pub all : List Commit
  pub prints : PrintsTranscript reading opening all None status.Done before after

-- the script was read to its end, a break came, and a transcript with it was printed
pub record PrintsBreak (reading : ScriptReading) (opening : List Commit) (closing : Status)
    (before after : Outside) : Type 0 where
  pub faultless : reading.fault ≡ None
  pub read : after.left ≡ Some []
  pub all : List Commit
  pub broke : Commit
  pub prints : PrintsTranscript reading opening all (Some broke) closing before after

-- a transcript of the phases before a fault of the script was printed
pub record PrintsToFault (reading : ScriptReading) (f : ScriptFault) (opening : List Commit)
    (before after : Outside) : Type 0 where
  pub fault_is : reading.fault ≡ Some f
  pub all : List Commit
  pub broke : Option Commit
  pub prints : PrintsTranscript reading opening all broke (status.ScriptFault f) before after

-- the source failed, and a transcript was printed of the phases that are closed in what was taken,
-- in which no fault is read
pub record PrintsClosed (closed : List ℕ → ScriptReading) (opening : List Commit) (closing : Status)
    (before after : Outside) : Type 0 where
  pub rose : Rose before.source_faults after.source_faults
  pub taken : List ℕ
  pub order : before.left ≡ prepend_known taken after.left
  pub faultless : (closed taken).fault ≡ None
  pub all : List Commit
  pub broke : Option Commit
  pub prints : PrintsTranscript (closed taken) opening all broke closing before after

-- CUT SHORT

-- the sink failed at the closing line of a journal that was not opened for this fault: some first
-- bytes of the line were written, nothing was read, and the disk keeps its journal
pub record CutsOpening (before after : Outside) : Type 0 where
  pub fault : JournalFault
  pub refused : RefusedBy fault before after
  pub counts : CountsFaults fault before.disk_faults after.disk_faults
  pub unread : IsUnread before after
  pub keeps : KeepsJournal before after
  pub some : ℕ
  pub written : after.written
      ≡ append_known before.written (take some (closing_line (status_for fault)))

-- the sink failed at the replies of a phase: those of the phases before it were written, and some
-- first bytes of its own. With all of its own they are a transcript, from the opening's commits to
-- all commits, with a break or none; the disk holds these commits, or also the break's.
pub record CutsReplies (reading : ScriptReading) (opening : List Commit) (before after : Outside)
    : Type 0 where
  pub turns : List (List Turn)
  pub last : List Turn
  pub later : List (List Job)
  pub answers : phases_asked reading.phases ≡ map jobs_of turns ++ jobs_of last ∷ later
  pub all : List Commit
  pub broke : Option Commit
  pub begins : IsPrefix opening all
  pub transcript : Transcript meant opening all broke (turns ++ last ∷ [])
  pub some : ℕ
  pub written : after.written ≡ append_known before.written
      (transcript_bytes reading.names turns ++ take some (turns_bytes reading.names last))
  pub holds : HoldsJournal all broke before after

-- a transcript of what is read was printed, and some first bytes of the closing line, which is that
-- of the status for the break, or for none
pub record CutsClosing (reading : ScriptReading) (closing : Option Commit → Status)
    (opening : List Commit) (before after : Outside) : Type 0 where
  pub bytes : List ℕ
  pub all : List Commit
  pub broke : Option Commit
  pub begins : IsPrefix opening all
  pub transcript : IsTranscript reading.names (phases_asked reading.phases) opening all broke bytes
  pub some : ℕ
  pub written : after.written
      ≡ append_known before.written (bytes ++ take some (closing_line (closing broke)))
  pub holds : HoldsJournal all broke before after

-- the same once the source had failed, of the phases that are closed in what was taken
pub record CutsClosed (closed : List ℕ → ScriptReading) (closing : Option Commit → Status)
    (opening : List Commit) (before after : Outside) : Type 0 where
  pub rose : Rose before.source_faults after.source_faults
  pub taken : List ℕ
  pub order : before.left ≡ prepend_known taken after.left
  pub faultless : (closed taken).fault ≡ None
  pub cuts : CutsClosing (closed taken) closing opening before after

-- how a run is to end whose phases were all run, or all of them before a fault of the script
abbrev pub wanted_for : Option ScriptFault → ℕ → Option Commit → Status
wanted_for None faults broke = wanted_by (is_some broke) faults
wanted_for (Some f) faults broke = status.ScriptFault f

-- the sink failed: in opening, at the replies of a phase, or at the closing line
abbrev pub CutsBySink : (Bool → List ℕ → ScriptReading) → List ℕ → List Commit → Outside → Outside
    → Type 0
CutsBySink reads script opening before after =
    CutsOpening before after
    ⊎ (CutsReplies (reads true script) opening before after
    ⊎ (CutsClosing (reads true script) (wanted_for (reads true script).fault after.disk_faults)
    opening before after
    ⊎ CutsClosed (reads false) (λ broke. status.SourceFault after.source_faults)
    opening before after))

-- memory ran out before anything was written or read; the disk keeps its journal
pub record StopsAtOnce (before after : Outside) : Type 0 where
  pub unread : IsUnread before after
  pub written : after.written ≡ before.written
  pub keeps : KeepsJournal before after

-- memory ran out in a phase: the replies of the phases before it were written. With those to the
-- first jobs of each of its sessions, so many as were done, they are a transcript, from the
-- opening's commits to all commits, with a break or none; the disk holds these commits, or also the
-- break's.
pub record StopsInPhase (reading : ScriptReading) (opening : List Commit) (before after : Outside)
    : Type 0 where
  pub turns : List (List Turn)
  pub last : List Turn
  pub later : List (List Job)
  pub answers : phases_asked reading.phases ≡ map jobs_of turns ++ later
  pub fronts : AreFronts last later
  pub all : List Commit
  pub broke : Option Commit
  pub begins : IsPrefix opening all
  pub transcript : Transcript meant opening all broke (turns ++ last ∷ [])
  pub written : after.written
      ≡ append_known before.written (transcript_bytes reading.names turns)
  pub holds : HoldsJournal all broke before after

-- memory ran out: at once, in a phase, or for the closing line, of which nothing is then written
abbrev pub CutsByMemory : (Bool → List ℕ → ScriptReading) → List ℕ → List Commit → Outside → Outside
    → Type 0
CutsByMemory reads script opening before after =
    StopsAtOnce before after
    ⊎ (StopsInPhase (reads true script) opening before after
    ⊎ (CutsClosing (reads true script) (λ broke. status.NoMemory) opening before after
    ⊎ CutsClosed (reads false) (λ broke. status.NoMemory) opening before after))

-- THE RUN OF A SCRIPT

-- the jobs of what is read, done one after the other from no commits on, were printed
pub record PrintsPlay (reading : ScriptReading) (old new : Option (List ℕ)) : Type 0 where
  pub bytes : List ℕ
  pub all : List Commit
  pub play : IsPlayOf reading.names (all_jobs (phases_asked reading.phases)) [] all bytes
  pub written : new ≡ append_known old bytes

-- what is proved of the run of a script over a journal of these commits
pub record RunTells (reads : Bool → List ℕ → ScriptReading) (script : List ℕ)
    (opening : List Commit) (before after : Outside) (ended : Status) : Type 0 where
  pub done : ended ≡ status.Done → PrintsAll (reads true script) opening before after
  pub no_memory : ended ≡ status.NoMemory → CutsByMemory reads script opening before after
  pub source_fault : (faults : ℕ) → ended ≡ status.SourceFault faults
      → PrintsClosed (reads false) opening ended before after
  pub sink_fault : (faults : ℕ) → ended ≡ status.SinkFault faults
      → Rose before.sink_faults after.sink_faults × CutsBySink reads script opening before after
  pub disk_fault : (faults : ℕ) → ended ≡ status.DiskFault faults
      → FailsToOpen ended before after
      ⊎ PrintsBreak (reads true script) opening ended before after
  pub script_fault : (f : ScriptFault) → ended ≡ status.ScriptFault f
      → PrintsToFault (reads true script) f opening before after

-- The headline: where the source tells a script and the disk a journal, then at status 0 the
-- transcript of the script over the journal's commits was printed, and the disk holds just the
-- commits that it ends with, also in a crash. At status 5 the disk failed in opening; or the
-- transcript has a break, and the disk holds the commits, or these and the break's. At status 6 it
-- is that of the phases before the fault, and at status 3 of those closed in what was taken. At
-- status 4 a prefix of one, with its closing line, was written, and at status 1 the replies of the
-- phases before memory ran out; the disk holds the commits of what was run and not written, too.
abbrev pub RunHeadline : (Bool → List ℕ → ScriptReading) → Outside → Outside → Status → Type 0
RunHeadline reads before after ended =
    (script image : List ℕ) (opening : List Commit)
    → before.left ≡ Some script → before.reads ≡ Some image → ImageStandsFor opening image
    → RunTells reads script opening before after ended

-- the same by what the words ask for; a sample that is done printed its jobs done one after the
-- other
abbrev pub HeadlineBy : Option Command → Outside → Outside → Status → Type 0
HeadlineBy None before after ended = Unit {0}
HeadlineBy (Some command.Init) before after ended = Unit {0}
HeadlineBy (Some command.Run) before after ended = RunHeadline script_reads before after ended
HeadlineBy (Some (command.Load table)) before after ended =
    RunHeadline (block_reads (put_text table)) before after ended
HeadlineBy (Some (command.Sample lines start)) before after ended =
    ended ≡ status.Done → PrintsPlay (sample_reading lines start) before.written after.written
HeadlineBy (Some command.Group) before after ended = Unit {0}
HeadlineBy (Some (command.Ship from to)) before after ended = Unit {0}
HeadlineBy (Some command.Follow) before after ended = Unit {0}
HeadlineBy (Some (command.Watch text)) before after ended = Unit {0}
HeadlineBy (Some command.Transact) before after ended = Unit {0}

abbrev pub Headline : List (List ℕ) → Outside → Outside → Status → Type 0
Headline words before after ended = HeadlineBy (command_of words) before after ended
