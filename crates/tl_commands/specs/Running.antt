-- What the running of phases does, phase by phase.
use Rattle.std.specs.Prelude.{◌≡◌, ℕ, ◌+◌, ◌<◌, ◌≤◌, true, false, List, [], ◌∷◌, ◌++◌, length, take, map, get_or, Option, Some, None}
use mathlib.Core.List.{IsPrefix}
use Rattle.tl_types.specs.declared.commits.Entry.{Entry}
use Rattle.tl_device.specs.Known.{append_known, prepend_known, Rose}
use Rattle.tl_script.specs.Script.{Job as ScriptJob}
use Rattle.tl_script.specs.Reader.{Grows}
use Rattle.tl_jobs.specs.declared.replies.Reply.{Reply}
use Rattle.tl_jobs.specs.Jobs.{Job}
use Rattle.tl_jobs.specs.Replies.{reply_bytes}
use Rattle.tl_session.specs.Plain as plain
use Rattle.tl_jobs.specs.Turns.{Turn, meant, of_session, EachOfAll}
use Rattle.tl_session.specs.Promises.{Chain, tally, weight}
use Rattle.tl_session.specs.Phases.{own_jobs, HaveRun}
use Rattle.tl_jobs.specs.Written.{jobs_of, turns_bytes, transcript_bytes}
use Rattle.tl_command.specs.declared.stops.Stop.{Stop}
use Rattle.tl_command.specs.declared.stops.Stop.TheVariants as stop
use Rattle.tl_command.specs.Jobs.{phases_asked}
use Rattle.tl_command.specs.Outside.{Streams}
use Rattle.tl_command.specs.Coming.{Coming, BringsPhase, HaveCome}
use Rattle.tl_commands.specs.Stopping.{RunStops}

-- sessions took these turns: each began with what the shared pass had seen, that pass has seen what
-- each of them saw, and the shared share counts the commits and breaks
pub record Advances (turns : List Turn) (old new : plain.SharedAccess) : Type 0 where
  pub parts : new.parts ≡ old.parts
  pub later : IsPrefix old.seen new.seen
  pub chains : (s : ℕ) → Chain meant old.seen (of_session s turns) new.seen
  pub amount : new.amount ≡ old.amount + tally weight turns

-- all jobs of a phase were answered, and the replies are written
pub record RunsWhole (names : List (List ℕ)) (jobs : List Job) (old new : plain.SharedAccess)
    (before after : Option (List ℕ)) (first last : ℕ) : Type 0 where
  pub turns : List Turn
  pub these : jobs_of turns ≡ jobs
  pub advances : Advances turns old new
  pub written : after ≡ append_known before (turns_bytes names turns)
  pub sure : last ≡ first

-- all jobs of a phase were answered, and the sink failed behind some prefix of the replies
pub record RunsUnwritten (names : List (List ℕ)) (jobs : List Job) (old new : plain.SharedAccess)
    (before after : Option (List ℕ)) (first last : ℕ) : Type 0 where
  pub turns : List Turn
  pub these : jobs_of turns ≡ jobs
  pub advances : Advances turns old new
  pub some : ℕ
  pub written : after ≡ append_known before (take some (turns_bytes names turns))
  pub rose : Rose first last

-- memory ran out: of each session some of the first jobs were answered, and nothing is written
pub record RunsShort (jobs : List Job) (old new : plain.SharedAccess)
    (before after : Option (List ℕ)) (first last : ℕ) : Type 0 where
  pub turns : List Turn
  pub fronts : (s : ℕ) → (rest : List Job)
      × (own_jobs s jobs ≡ jobs_of (of_session s turns) ++ rest)
  pub advances : Advances turns old new
  pub unwritten : after ≡ before
  pub sure : last ≡ first

-- what became of a phase of these jobs, by why the phases stop with it, if they do
abbrev pub RunsAndWrites : List (List ℕ) → List Job → plain.SharedAccess → plain.SharedAccess
    → Option (List ℕ)
    → Option (List ℕ) → ℕ → ℕ → Option Stop → Type 0
RunsAndWrites names jobs old new before after first last None =
    RunsWhole names jobs old new before after first last
RunsAndWrites names jobs old new before after first last (Some stop.Ended) = ⊥
RunsAndWrites names jobs old new before after first last (Some (stop.Fault f)) = ⊥
RunsAndWrites names jobs old new before after first last (Some (stop.Source faults)) = ⊥
RunsAndWrites names jobs old new before after first last (Some (stop.Sink faults)) =
    RunsUnwritten names jobs old new before after first last × (faults ≡ last)
RunsAndWrites names jobs old new before after first last (Some stop.NoMemory) =
    RunsShort jobs old new before after first last

-- the phases that have come were run, each behind the one before it, and their replies are written
pub record Progress (first : Coming) (opening : List Entry) (begun : Streams) (now : Coming)
    (shared : plain.SharedAccess) (at : Streams) : Type 0 where
  pub bytes : List ℕ
  pub phases : List (List ScriptJob)
  pub come : HaveCome first begun.left bytes phases now at.left
  pub live : now.live ≡ true
  pub parts : shared.parts ≡ 65536
  pub turns : List (List Turn)
  pub answers : map jobs_of turns ≡ phases_asked phases
  pub inside : EachOfAll (λ t. t.job.session < length now.names) turns
  pub ran : HaveRun opening turns shared.seen shared.amount
  pub written : at.written ≡ append_known begun.written (transcript_bytes now.names turns)
  pub source_sure : at.source_faults ≡ begun.source_faults
  pub sink_sure : at.sink_faults ≡ begun.sink_faults

-- the phases go on behind this one, or they stopped, and this was done by then
abbrev pub GoesOn : Coming → List Entry → Streams → Coming → plain.SharedAccess → Streams
    → Option Stop → Type 0
GoesOn first opening begun now shared at None = Progress first opening begun now shared at
GoesOn first opening begun now shared at (Some why) =
    RunStops (λ turns. HaveRun opening turns shared.seen shared.amount) first.reads why begun at
    × (shared.parts ≡ 65536)

-- a step after which the phases go on took one phase, of bytes of a source that was not yet known
-- to be at its end
abbrev pub TakesOnePhase : Coming → Coming → Option (List ℕ) → Option (List ℕ) → Option Stop
    → Type 0
TakesOnePhase old new before after None =
    (old.at_end ≡ false) × ((taken : List ℕ) × (jobs : List ScriptJob)
    × (before ≡ prepend_known taken after) × BringsPhase old taken jobs new after)
TakesOnePhase old new before after (Some why) = Unit {0}

-- the replies to jobs, each under the name of its session
abbrev pub replies_bytes : List (List ℕ) → List Job → List Reply → List ℕ
replies_bytes names [] replies = []
replies_bytes names (job ∷ jobs) [] = []
replies_bytes names (job ∷ jobs) (reply ∷ replies) =
    reply_bytes (get_or names job.session []) reply ++ replies_bytes names jobs replies
