-- How `watch` ends, and what it leaves outside. C are the commits of the opening. By what the text
-- names over C:
--
--   a plan      it ends as a group does, where behind each reply `ok` the plan's value is told over
--               the commits up to it
--   a fault     WatchFault: the closing line is written; SinkFault: first bytes of it; NoMemory:
--               nothing. In each case nothing is read, and the disk stands for C
--
-- So WatchFault comes with a fault of the text alone. Where the journal is not opened it ends as a
-- run that is not opened.
use Rattle.std.specs.Prelude.{◌≡◌, ◌⊎◌, ℕ, Bool, false, List, [], Some, None, Result, Ok, Err}
use Rattle.tl_types.specs.declared.commits.Commit.{Commit}
use Rattle.tl_script.specs.Script.{ScriptReading}
use Rattle.tl_watch.specs.declared.plans.WatchPlan.{WatchPlan}
use Rattle.tl_watch.specs.Watches.{Watch}
use Rattle.tl_commands.specs.Plans.{plan_reading}
use Rattle.tl_commands.specs.Watches.{WatchesPlan}
use Rattle.tl_jobs.specs.declared.replies.Refusal.{Refusal}
use Rattle.tl_command.specs.declared.statuses.Status.{Status}
use Rattle.tl_command.specs.declared.statuses.Status.TheVariants as status
use Rattle.tl_command.specs.Closing.{Closes, EndsRefused}
use Rattle.tl_command.specs.Outside.{Outside, IsUnread, OpensWith, HoldsJournal}
use Rattle.tl_commands.specs.Grouping.{GroupEndsBy}

-- the text has this fault: nothing is read, the closing line is written, unless memory runs out or
-- the sink fails, and the disk keeps the journal
pub record RefusesText (f : Refusal) (opening : List Commit) (before after : Outside)
    (ended : Status) : Type 0 where
  pub unread : IsUnread before after
  pub closes : Closes [] (status.WatchFault f) before.written after.written before.sink_faults
      after.sink_faults ended
  pub holds : HoldsJournal opening None before after

-- how it ends over these commits, by what the text names over them
abbrev pub WatchEndsBy : Result WatchPlan Refusal → (Bool → List ℕ → ScriptReading) → List Commit
    → Outside → Outside → Status → Type 0
WatchEndsBy (Ok plan) reads opening before after ended =
    GroupEndsBy false (Some plan) reads opening before after ended
WatchEndsBy (Err f) reads opening before after ended = RefusesText f opening before after ended

-- the same, with what was opened
pub record WatchOpened (text : List ℕ) (reads : Bool → List ℕ → ScriptReading)
    (opening : List Commit) (before after : Outside) (ended : Status) : Type 0 where
  pub opens : OpensWith opening before
  pub ends : WatchEndsBy (plan_reading opening text) reads opening before after ended

-- how `watch` ends with this text: its journal is not opened, as for a run; or it is
abbrev pub WatchEnds : List ℕ → (Bool → List ℕ → ScriptReading) → Outside → Outside → Status
    → Type 0
WatchEnds text reads before after ended =
    EndsRefused before after ended
    ⊎ ((opening : List Commit) × WatchOpened text reads opening before after ended)

-- what was read of a text comes to this over these commits: a watch of the plan that it names,
-- which stands for them, or its fault
abbrev pub BeginsRead : List Commit → Result WatchPlan Refusal → Result Watch Refusal → Type 0
BeginsRead commits read (Ok watch) =
    (plan : WatchPlan) × (read ≡ Ok plan) × WatchesPlan plan commits watch
BeginsRead commits read (Err f) = read ≡ Err f

-- the same of the text
abbrev pub BeginsWatch : List Commit → List ℕ → Result Watch Refusal → Type 0
BeginsWatch commits text read = BeginsRead commits (plan_reading commits text) read
