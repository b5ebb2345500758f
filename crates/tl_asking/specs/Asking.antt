-- How the asking of a script's queries ends, and what it leaves outside. The journal keeps its
-- commits whatever comes. By status:
--
--   status                    written
--   Done                      the replies to all jobs
--   NoMemory                  the replies of the phases before that in which memory ran out
--   SourceFault, ScriptFault  the replies of the phases before the fault, and the closing line
--   SinkFault                 first bytes of what was to be written
--   DiskFault,                as for a run that is not opened
--   NotInitialised, Damaged
use Rattle.std.specs.Prelude.{◌⊎◌, ℕ, Bool, false, List, None}
use Rattle.tl_types.specs.declared.commits.Commit.{Commit}
use Rattle.tl_script.specs.Script.{ScriptReading}
use Rattle.tl_command.specs.declared.statuses.Status.{Status}
use Rattle.tl_command.specs.Closing.{EndsRefused}
use Rattle.tl_command.specs.Outside.{Outside, streams_of, OpensWith, HoldsJournal}
use Rattle.tl_commands.specs.Runs.{PhasesEnd}
use Rattle.tl_asking.specs.Answers.{AreAnswered}

-- how it ends over a journal that was opened with these commits: the phases stopped as those of a
-- run do, and each reply is what its job is answered with over just these commits
pub record AskOpened (reads : Bool → List ℕ → ScriptReading) (opening : List Commit)
    (before after : Outside) (ended : Status) : Type 0 where
  pub opens : OpensWith opening before
  pub holds : HoldsJournal opening None before after
  pub ends : PhasesEnd (AreAnswered opening) reads false 0 (streams_of before) (streams_of after)
      ended

-- how it ends: its journal is not opened, as for a run; or it is
abbrev pub AskEnds : (Bool → List ℕ → ScriptReading) → Outside → Outside → Status → Type 0
AskEnds reads before after ended =
    EndsRefused before after ended
    ⊎ ((opening : List Commit) × AskOpened reads opening before after ended)
