-- Where the phases of a run stopped, and what was done by then: which were run, what the sessions
-- were answered with, and what was written.
use Rattle.std.specs.Prelude.{◌≡◌, ℕ, Bool, true, false, List, [], ◌∷◌, ◌++◌, take, map, Option, Some, None, IfSome}
use Rattle.tl_device.specs.Known.{append_known, prepend_known, Rose}
use Rattle.tl_script.specs.declared.jobs.ScriptFault.{ScriptFault}
use Rattle.tl_script.specs.Script.{ScriptReading}
use Rattle.tl_script.specs.Taking.{IsAtEnd}
use Rattle.tl_jobs.specs.Jobs.{Job}
use Rattle.tl_jobs.specs.Turns.{Turn, of_session}
use Rattle.tl_session.specs.Phases.{own_jobs}
use Rattle.tl_jobs.specs.Written.{jobs_of, turns_bytes, transcript_bytes}
use Rattle.tl_command.specs.declared.stops.Stop.{Stop}
use Rattle.tl_command.specs.declared.stops.Stop.TheVariants as stop
use Rattle.tl_command.specs.Jobs.{phases_asked}
use Rattle.tl_command.specs.Outside.{Streams}

-- The records below speak of turns by what `Ran` says of them. `reads` is what is read of the bytes
-- that a source had left, the whole of a script or the start of one.

-- all phases before this fault were run, or, without one, all phases, and the source was read to
-- its end; their replies are written
pub record RunsAll (Ran : List (List Turn) → Type 0) (reads : List ℕ → ScriptReading)
    (fault : Option ScriptFault) (before after : Streams) : Type 0 where
  pub script : List ℕ
  pub told : IfSome before.left (λ left. left ≡ script)
  pub fault_is : (reads script).fault ≡ fault
  pub whole : fault ≡ None → IsAtEnd after.left × (before.left ≡ prepend_known script after.left)
  pub turns : List (List Turn)
  pub answers : map jobs_of turns ≡ phases_asked (reads script).phases
  pub ran : Ran turns
  pub written : after.written
      ≡ append_known before.written (transcript_bytes (reads script).names turns)
  pub source_sure : after.source_faults ≡ before.source_faults
  pub sink_sure : after.sink_faults ≡ before.sink_faults

-- the source failed: the phases were run that are closed in the bytes taken of it, in which no
-- fault is read, and their replies are written
pub record StopsAtSource (Ran : List (List Turn) → Type 0) (closed : List ℕ → ScriptReading)
    (before after : Streams) : Type 0 where
  pub taken : List ℕ
  pub order : before.left ≡ prepend_known taken after.left
  pub rose : Rose before.source_faults after.source_faults
  pub faultless : (closed taken).fault ≡ None
  pub turns : List (List Turn)
  pub answers : map jobs_of turns ≡ phases_asked (closed taken).phases
  pub ran : Ran turns
  pub written : after.written
      ≡ append_known before.written (transcript_bytes (closed taken).names turns)
  pub sink_sure : after.sink_faults ≡ before.sink_faults

-- the sink failed while it was given the replies of a phase: those of the phases before it are
-- written, and some prefix of its own
pub record StopsAtSink (Ran : List (List Turn) → Type 0) (reads : List ℕ → ScriptReading)
    (before after : Streams) : Type 0 where
  pub script : List ℕ
  pub told : IfSome before.left (λ left. left ≡ script)
  pub turns : List (List Turn)
  pub last : List Turn
  pub later : List (List Job)
  pub answers : phases_asked (reads script).phases ≡ map jobs_of turns ++ jobs_of last ∷ later
  pub ran : Ran (turns ++ last ∷ [])
  pub rose : Rose before.sink_faults after.sink_faults
  pub some : ℕ
  pub written : after.written ≡ append_known before.written
      (transcript_bytes (reads script).names turns
      ++ take some (turns_bytes (reads script).names last))
  pub source_sure : after.source_faults ≡ before.source_faults

-- these are turns of the next phase, where there is one: each session was answered some of the
-- first of its jobs
abbrev pub AreFronts : List Turn → List (List Job) → Type 0
AreFronts last [] = last ≡ []
AreFronts last (jobs ∷ later) =
    (s : ℕ) → (rest : List Job) × (own_jobs s jobs ≡ jobs_of (of_session s last) ++ rest)

-- memory ran out: the replies of some of the first phases are written, and none of the phase in
-- which it ran out, of which some jobs may be done
pub record StopsShort (Ran : List (List Turn) → Type 0) (reads : List ℕ → ScriptReading)
    (before after : Streams) : Type 0 where
  pub script : List ℕ
  pub told : IfSome before.left (λ left. left ≡ script)
  pub turns : List (List Turn)
  pub last : List Turn
  pub later : List (List Job)
  pub answers : phases_asked (reads script).phases ≡ map jobs_of turns ++ later
  pub fronts : AreFronts last later
  pub ran : Ran (turns ++ last ∷ [])
  pub written : after.written
      ≡ append_known before.written (transcript_bytes (reads script).names turns)
  pub source_sure : after.source_faults ≡ before.source_faults
  pub sink_sure : after.sink_faults ≡ before.sink_faults

-- what was done, by why the phases stopped
abbrev pub RunStops : (List (List Turn) → Type 0) → (Bool → List ℕ → ScriptReading) → Stop → Streams
    → Streams → Type 0
RunStops Ran reads stop.Ended before after = RunsAll Ran (reads true) None before after
RunStops Ran reads (stop.Fault f) before after = RunsAll Ran (reads true) (Some f) before after
RunStops Ran reads (stop.Source faults) before after =
    StopsAtSource Ran (reads false) before after × (faults ≡ after.source_faults)
RunStops Ran reads (stop.Sink faults) before after =
    StopsAtSink Ran (reads true) before after × (faults ≡ after.sink_faults)
RunStops Ran reads stop.NoMemory before after = StopsShort Ran (reads true) before after
