-- Phases that come one after the other when they are asked for: those of a script, of which a
-- source gives the bytes, or those that the program makes.
use Rattle.std.specs.Prelude.{◌≡◌, ◌⊎◌, ℕ, ◌<◌, ◌≤◌, Bool, true, false, nat_lt, List, [], ◌∷◌, ◌++◌, length, Option, Some, None, Result, Ok, Err, All, codes, if◌then◌else◌}
use Rattle.tl_types.specs.Limits.{standard_limits}
use Rattle.tl_device.specs.Known.{prepend_known}
use Rattle.tl_script.specs.declared.jobs.ScriptFault.{ScriptFault}
use Rattle.tl_script.specs.declared.jobs.ScriptFault.TheVariants as fault
use Rattle.tl_script.specs.declared.phases.NextError.{NextError}
use Rattle.tl_script.specs.declared.phases.NextError.TheVariants as next
use Rattle.tl_script.specs.declared.phases.Phase.{Phase}
use Rattle.tl_script.specs.Script.{Job, ScriptReading, load_of}
use Rattle.tl_script.specs.Phases.{with_phase, no_phase, no_phase_but, most_sessions, script_start, reading_from}
use Rattle.tl_script.specs.Reader.{ScriptState, reading_ahead, with_phases, Grows, IsNeeded}
use Rattle.tl_script.specs.Taking.{IsAtEnd}

-- what may still come: what is read where these bytes follow, and are all that does or may go on;
-- whether the source is known to be at its end; whether a phase may come; the names of the sessions
-- so far, in order of number; and how many there may be
pub record Coming : Type 0 where
  pub reads : Bool → List ℕ → ScriptReading
  pub at_end : Bool
  pub live : Bool
  pub names : List (List ℕ)
  pub most : ℕ

-- a phase comes next, whatever follows the bytes that were taken; or it comes last
abbrev pub Comes : Coming → List ℕ → List Job → Coming → Option (List ℕ) → Type 0
Comes old taken jobs new left =
    ((whole : Bool) (more : List ℕ)
    → old.reads whole (taken ++ more) ≡ with_phase jobs (new.reads whole more))
    ⊎ (IsAtEnd left × (new.at_end ≡ true)
    × (old.reads true taken ≡ with_phase jobs (no_phase new.names)))

-- a phase came
pub record BringsPhase (old : Coming) (taken : List ℕ) (jobs : List Job) (new : Coming)
    (left : Option (List ℕ)) : Type 0 where
  pub live : new.live ≡ true
  pub names : Grows old.names new.names
  pub most : new.most ≡ old.most
  pub few : length old.names ≤ old.most → length new.names ≤ old.most
  pub known : (more : List ℕ) → Grows new.names (new.reads true more).names
  pub sessions : All (λ job. job.session < length new.names) jobs
  pub ended : new.at_end ≡ true → IsAtEnd left
  pub comes : Comes old taken jobs new left

-- all phases came
pub record BringsNoMore (old : Coming) (taken : List ℕ) (left : Option (List ℕ)) : Type 0 where
  pub none_left : old.at_end ≡ false → IsAtEnd left
  pub read : old.reads true taken ≡ no_phase old.names

-- the next phase has this fault, whatever follows the bytes that were taken, or because none does
abbrev pub BringsFault : Coming → List ℕ → ScriptFault → Option (List ℕ) → Type 0
BringsFault old taken f left =
    ((more : List ℕ) → old.reads true (taken ++ more) ≡ no_phase_but old.names f)
    ⊎ (IsAtEnd left × (old.reads true taken ≡ no_phase_but old.names f))

-- why no phase came: memory ran out, the source failed before the bytes taken had a whole phase, or
-- the phase has a fault
abbrev pub BringsNone : Coming → List ℕ → NextError → Option (List ℕ) → Type 0
BringsNone old taken next.NoMemory left = Unit {0}
BringsNone old taken (next.Source faults) left = old.reads false taken ≡ no_phase old.names
BringsNone old taken (next.Fault f) left = BringsFault old taken f left

-- what the answer says of the bytes that were taken
abbrev pub SaysComing : Coming → List ℕ → Result (Option Phase) NextError → Coming → Option (List ℕ)
    → Type 0
SaysComing old taken (Ok (Some phase)) new left = BringsPhase old taken phase.jobs.items new left
SaysComing old taken (Ok None) new left = BringsNoMore old taken left
SaysComing old taken (Err e) new left = BringsNone old taken e left

-- bytes were taken of the source, none where it is at its end or those in hand decide, and the
-- answer says this of them
pub record AnswersComing (old : Coming) (before : Option (List ℕ))
    (answer : Result (Option Phase) NextError) (new : Coming) (after : Option (List ℕ))
    : Type 0 where
  pub taken : List ℕ
  pub order : before ≡ prepend_known taken after
  pub needed : IsNeeded (old.reads false) old.names taken
  pub idle : old.at_end ≡ true → (taken ≡ []) × (answer ≡ Ok None)
  pub says : SaysComing old taken answer new after

-- THE PHASES SO FAR

-- what is read from the first phase on is these phases, and then what comes; or it is these alone
abbrev pub ReadsOn : Coming → List ℕ → List (List Job) → Coming → Option (List ℕ) → Type 0
ReadsOn first bytes phases now left =
    ((whole : Bool) (more : List ℕ)
    → first.reads whole (bytes ++ more) ≡ with_phases phases (now.reads whole more))
    ⊎ (IsAtEnd left × (now.at_end ≡ true)
    × (first.reads true bytes ≡ with_phases phases (no_phase now.names)))

-- these phases came so far, of these bytes of a source that had `before` left
pub record HaveCome (first : Coming) (before : Option (List ℕ)) (bytes : List ℕ)
    (phases : List (List Job)) (now : Coming) (left : Option (List ℕ)) : Type 0 where
  pub order : before ≡ prepend_known bytes left
  pub most : now.most ≡ first.most
  pub few : length now.names ≤ first.most
  pub known : (more : List ℕ) → Grows now.names (now.reads true more).names
  pub ended : now.at_end ≡ true → IsAtEnd left
  pub reads : ReadsOn first bytes phases now left

-- phases that are still to come, of a source that is not at its end yet
pub record HasNotBegun (first : Coming) : Type 0 where
  pub live : first.live ≡ true
  pub at_end : first.at_end ≡ false
  pub few : length first.names ≤ first.most
  pub most : first.most < 65536
  pub known : (more : List ℕ) → Grows first.names (first.reads true more).names

-- WHERE PHASES COME FROM

-- how a script is read, the whole of one (`reading_of`), or the start of one (`phases_closed`)
abbrev pub script_reads : Bool → List ℕ → ScriptReading
script_reads whole bytes = reading_from whole standard_limits script_start bytes

-- what may still come of a script that is read so far
abbrev pub script_coming : ScriptState → Coming
script_coming state =
    record {
      reads = λ whole more. reading_ahead whole state more;
      at_end = state.at_end;
      live = state.live;
      names = state.names;
      most = most_sessions state.limits;
    }

-- the name of the session that loads a table
abbrev pub loader_names : List (List ℕ)
loader_names = codes "load" ∷ []

-- how a whole source is read that is the block of this statement; its start closes no phase, and
-- shows where the block is too long
abbrev pub block_reads : List ℕ → Bool → List ℕ → ScriptReading
block_reads text true bytes = load_of standard_limits.phase text bytes
block_reads text false bytes =
    if nat_lt standard_limits.phase (length bytes) then no_phase_but [] (fault.PhaseTooLong 1)
    else no_phase []

-- what may still come of the one phase of such a block
abbrev pub block_coming : List ℕ → Bool → Coming
block_coming text false =
    record {
      reads = block_reads text;
      at_end = false;
      live = true;
      names = [];
      most = 1;
    }
block_coming text true =
    record {
      reads = λ whole more. no_phase loader_names;
      at_end = true;
      live = true;
      names = loader_names;
      most = 1;
    }
