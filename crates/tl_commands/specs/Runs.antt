-- How a run ends: its replies are a transcript of the phases before it stopped, over a journal that
-- is opened, or over one of its own.
use Rattle.std.specs.Prelude.{◌≡◌, ◌⊎◌, ℕ, Bool, false, List, [], ◌++◌, None, is_some, codes}
use Rattle.std.specs.declared.option.Option.{Option}
use mathlib.Core.List.{IsPrefix}
use Rattle.tl_types.specs.declared.commits.Commit.{Commit}
use Rattle.tl_script.specs.Script.{ScriptReading}
use Rattle.tl_jobs.specs.Turns.{Turn, meant, all_turns}
use Rattle.tl_session.specs.Transcript.{Transcript}
use Rattle.tl_jobs.specs.Play.{AreLone, IsPlay}
use Rattle.tl_command.specs.declared.statuses.Status.{Status}
use Rattle.tl_command.specs.declared.statuses.Status.TheVariants as status
use Rattle.tl_command.specs.declared.stops.Stop.{Stop}
use Rattle.tl_commands.specs.Stopping.{RunStops}
use Rattle.tl_command.specs.Outside.{Outside, Streams, streams_of, OpensWith, HoldsJournal}
use Rattle.tl_command.specs.Closing.{WritesNothing, EndsRefused, ClosesAfter}

-- The replies of the turns of all phases are a transcript from the opening's commits to all
-- commits, with a break or none. Where nothing broke, and the turns of each phase are of one
-- session, they are those of the jobs done one after the other.
pub record Told (opening all : List Commit) (broke : Option Commit) (turns : List (List Turn))
    : Type 0 where
  pub begins : IsPrefix opening all
  pub transcript : Transcript meant opening all broke turns
  pub play : broke ≡ None → AreLone turns → IsPlay meant opening (all_turns turns) all

-- the phases stopped for this, with the source and the sink as they then were, and the run was
-- closed
pub record PhasesEnd (Ran : List (List Turn) → Type 0) (reads : Bool → List ℕ → ScriptReading)
    (broke : Bool) (faults : ℕ) (before after : Streams) (ended : Status) : Type 0 where
  pub why : Stop
  pub at : Streams
  pub stops : RunStops Ran reads why before at
  pub left_same : after.left ≡ at.left
  pub source_same : after.source_faults ≡ at.source_faults
  pub closes : ClosesAfter why broke faults at.written after.written at.sink_faults
      after.sink_faults ended

-- how a run over a journal ends that was opened with these commits: the disk holds all commits of
-- which the replies tell, or, where a break came, these or these and the break's
pub record OpenedEnds (reads : Bool → List ℕ → ScriptReading) (opening : List Commit)
    (before after : Outside) (ended : Status) : Type 0 where
  pub opens : OpensWith opening before
  pub all : List Commit
  pub broke : Option Commit
  pub holds : HoldsJournal all broke before after
  pub ends : PhasesEnd (Told opening all broke) reads (is_some broke) after.disk_faults
      (streams_of before) (streams_of after) ended

-- how a run of phases ends, of which this is read of the bytes that a source has
abbrev pub RunEnds : (Bool → List ℕ → ScriptReading) → Outside → Outside → Status → Type 0
RunEnds reads before after ended =
    EndsRefused before after ended
    ⊎ ((opening : List Commit) × OpenedEnds reads opening before after ended)

-- a sink, beside which nothing is read
abbrev pub sink_alone : Option (List ℕ) → ℕ → Streams
sink_alone written faults =
    record { left = None; source_faults = 0; written = written; sink_faults = faults }

-- how the run of a sample ends: memory ran out before its first phase; or over a journal of its
-- own, from no commits on, with no source, and without a break
abbrev pub SampleEnds : ScriptReading → Option (List ℕ) → Option (List ℕ) → ℕ → ℕ → Status → Type 0
SampleEnds reading old new before after ended =
    WritesNothing status.NoMemory old new before after ended
    ⊎ ((all : List Commit) × PhasesEnd (Told [] all None) (λ whole bytes. reading) false 0
    (sink_alone old before) (sink_alone new after) ended)

-- the text of the statement that loads a table
abbrev pub put_text : List ℕ → List ℕ
put_text table = codes "PUT " ++ table
