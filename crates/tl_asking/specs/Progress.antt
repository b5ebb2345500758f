-- What the answering of phases does, phase by phase.
use Rattle.std.specs.Prelude.{◌≡◌, ℕ, ◌<◌, true, List, [], map, length, get_or, Option, Some, None}
use Rattle.std.specs.List.{flat_map}
use Rattle.tl_types.specs.declared.commits.Commit.{Commit}
use Rattle.tl_device.specs.Known.{append_known}
use Rattle.tl_script.specs.Script.{Job as ScriptJob}
use Rattle.tl_jobs.specs.Jobs.{Job}
use Rattle.tl_jobs.specs.Replies.{reply_bytes}
use Rattle.tl_jobs.specs.Turns.{Turn, EachOfAll}
use Rattle.tl_jobs.specs.Written.{jobs_of, transcript_bytes}
use Rattle.tl_command.specs.declared.stops.Stop.{Stop}
use Rattle.tl_command.specs.Coming.{Coming, HaveCome}
use Rattle.tl_command.specs.Jobs.{phases_asked}
use Rattle.tl_command.specs.Outside.{Streams}
use Rattle.tl_commands.specs.Stopping.{RunStops}
use Rattle.tl_asking.specs.Answers.{AreAnswered, named_reply}

-- the replies to jobs over these commits, each under the name of its session
abbrev pub replies_text : List Commit → List (List ℕ) → List Job → List ℕ
replies_text commits names jobs =
    flat_map (λ job. reply_bytes (get_or names job.session []) (named_reply commits job)) jobs

-- the phases that have come were answered, and their replies are written
pub record Progress (commits : List Commit) (first : Coming) (begun : Streams) (now : Coming)
    (at : Streams) : Type 0 where
  pub bytes : List ℕ
  pub phases : List (List ScriptJob)
  pub come : HaveCome first begun.left bytes phases now at.left
  pub live : now.live ≡ true
  pub turns : List (List Turn)
  pub answers : map jobs_of turns ≡ phases_asked phases
  pub inside : EachOfAll (λ t. t.job.session < length now.names) turns
  pub ran : AreAnswered commits turns
  pub written : at.written ≡ append_known begun.written (transcript_bytes now.names turns)
  pub source_sure : at.source_faults ≡ begun.source_faults
  pub sink_sure : at.sink_faults ≡ begun.sink_faults

-- the phases go on after this one, or they stopped, and this was done by then
abbrev pub GoesOn : List Commit → Coming → Streams → Coming → Streams → Option Stop → Type 0
GoesOn commits first begun now at None = Progress commits first begun now at
GoesOn commits first begun now at (Some why) =
    RunStops (AreAnswered commits) first.reads why begun at
