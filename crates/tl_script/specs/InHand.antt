-- What the parts of a reader say of the lines that they take.
use Rattle.std.specs.Prelude.{◌≡◌, ℕ, ◌+◌, ◌<◌, ◌≤◌, ◌⊎◌, Bool, true, false, nat_le, List, [], ◌∷◌, ◌++◌, length, take, drop, Option, Some, None, Result, Ok, Err, All}
use Rattle.tl_types.specs.declared.limits.Limits.{Limits}
use Rattle.tl_device.specs.Known.{prepend_known}
use Rattle.tl_script.specs.declared.jobs.ScriptFault.TheVariants as fault
use Rattle.tl_script.specs.declared.jobs.ScriptError.{ScriptError}
use Rattle.tl_script.specs.declared.jobs.ScriptError.TheVariants.{NoMemory, Fault}
use Rattle.tl_script.specs.declared.open_phase.OpenPhase.{OpenPhase}
use Rattle.tl_script.specs.declared.open_phase.OpenBlock.{OpenBlock}
use Rattle.tl_script.specs.declared.phases.NextError.{NextError}
use Rattle.tl_script.specs.declared.phases.NextError.TheVariants as next
use Rattle.tl_script.specs.declared.lines_in_hand.Found.{Found}
use Rattle.tl_script.specs.Script.{ScriptReading, lines_of, stands_in}
use Rattle.tl_script.specs.Reader.{ScriptState, IsNeeded}
use Rattle.tl_script.specs.Taking.{IsAtEnd}
use Rattle.tl_script.specs.Phases.{Place, Outside, Inside, Spot, Step, Fails, Goes, Ends, early_fault, end_at, no_phase, phase_start, behind_go, session_number, most_sessions, with_name, with_job, reading_from, with_phase, no_phase_but}

-- outside a block, or inside the one that is read
abbrev pub place_of : Option OpenBlock → Place
place_of None = Outside
place_of (Some block) = Inside block.session block.line block.text block.bytes.items

-- where the reading of a phase stands
abbrev pub spot_in : OpenPhase → Spot
spot_in phase =
    record {
      before = take phase.known phase.names;
      names = phase.names;
      line = phase.line;
      ended = phase.ended;
      size = phase.size;
      jobs = phase.jobs.items;
      place = place_of phase.block;
    }

-- a line was read as what it does: it ends the phase, the phase goes on, or it has a fault
abbrev pub StepIs : Step → Result Bool ScriptError → Spot → Spot → Type 0
StepIs step (Ok true) old new = (step ≡ Ends) × (new ≡ old)
StepIs step (Ok false) old new = step ≡ Goes new
StepIs step (Err NoMemory) old new = Unit {0}
StepIs step (Err (Fault f)) old new = step ≡ Fails f

-- a line was read that cannot end the phase
abbrev pub SaysStep : {A : Type 0} → Step → Result A ScriptError → Spot → Type 0
SaysStep step (Ok done) new = step ≡ Goes new
SaysStep step (Err NoMemory) new = Unit {0}
SaysStep step (Err (Fault f)) new = step ≡ Fails f

-- the one error is being out of memory
abbrev pub SaysMemory : {A : Type 0} → Result A ScriptError → Type 0
SaysMemory (Ok done) = Unit {0}
SaysMemory (Err NoMemory) = Unit {0}
SaysMemory (Err (Fault f)) = ⊥

-- the spot with these names, and otherwise the same
abbrev pub with_names : Spot → List (List ℕ) → Spot
with_names spot names =
    record {
      before = spot.before;
      names = names;
      line = spot.line;
      ended = spot.ended;
      size = spot.size;
      jobs = spot.jobs;
      place = spot.place;
    }

-- the session of a name was found, or its name is new and stands behind the others, or there are
-- too many
abbrev pub SessionIs : Limits → Spot → List ℕ → Result ℕ ScriptError → Spot → Type 0
SessionIs limits old name (Ok number) new =
    (number ≡ session_number old.names name)
    × (nat_le (most_sessions limits) (session_number old.names name) ≡ false)
    × (new ≡ with_names old (with_name old.names name))
SessionIs limits old name (Err NoMemory) new = Unit {0}
SessionIs limits old name (Err (Fault f)) new =
    (nat_le (most_sessions limits) (session_number old.names name) ≡ true)
    × (f ≡ fault.SessionsFull old.line)

-- the spot with a job more
abbrev pub with_job_in : Spot → ℕ → ℕ → List ℕ → Option (List ℕ) → Spot
with_job_in spot session line text block =
    record {
      before = spot.before;
      names = spot.names;
      line = spot.line;
      ended = spot.ended;
      size = spot.size;
      jobs = with_job spot.jobs session line text block;
      place = spot.place;
    }

-- the bytes begin with a line of so many, the last of which is its LF
pub record BeginsLine (bytes : List ℕ) (number : ℕ) : Type 0 where
  pub within : number ≤ length bytes
  pub some : 0 < number
  pub ends : stands_in 10 (take number bytes) ≡ true
  pub lines : (more : List ℕ) → lines_of (bytes ++ more)
      ≡ take number bytes ∷ lines_of (drop number bytes ++ more)

-- what is ahead of a phase that a GO line ended, or that goes on
abbrev pub ahead_of : Bool → Bool → Limits → Spot → List ℕ → ScriptReading
ahead_of true whole limits spot bytes =
    with_phase spot.jobs (reading_from whole limits (behind_go spot) bytes)
ahead_of false whole limits spot bytes = reading_from whole limits spot bytes

-- lines were read up to a GO line, or until no LF was left
pub record ReadsLines (limits : Limits) (old : Spot) (bytes : List ℕ) (found : Found) (new : Spot)
    : Type 0 where
  pub within : found.used ≤ length bytes
  pub rest : found.ends ≡ false → stands_in 10 (drop found.used bytes) ≡ false
  pub size : found.ends ≡ false → old.size + found.used ≡ new.size
  pub read : (whole : Bool) (more : List ℕ) → reading_from whole limits old (bytes ++ more)
      ≡ ahead_of found.ends whole limits new (drop found.used bytes ++ more)

-- lines were read, or one has a fault
abbrev pub ReadsHand : Limits → Spot → List ℕ → Result Found ScriptError → Spot → Type 0
ReadsHand limits old bytes (Ok found) new = ReadsLines limits old bytes found new
ReadsHand limits old bytes (Err NoMemory) new = Unit {0}
ReadsHand limits old bytes (Err (Fault f)) new = (whole : Bool) (more : List ℕ) →
    reading_from whole limits old (bytes ++ more) ≡ no_phase_but old.before f

-- the session of a block's statement has a number below this
abbrev pub IsNamedPlace : ℕ → Place → Type 0
IsNamedPlace number Outside = Unit {0}
IsNamedPlace number (Inside session begun text block) = session < number

-- the names so far begin with those of the phases before, and the sessions of all jobs are named
pub record IsNamed (spot : Spot) : Type 0 where
  pub grown : (more : List (List ℕ)) × (spot.names ≡ spot.before ++ more)
  pub jobs : All (λ job. job.session < length spot.names) spot.jobs
  pub open_block : IsNamedPlace (length spot.names) spot.place

-- nothing of a phase is read yet
pub record IsBetween (phase : OpenPhase) : Type 0 where
  pub known : phase.known ≡ length phase.names
  pub size : phase.size ≡ 0
  pub jobs : phase.jobs.items ≡ []
  pub block : phase.block ≡ None

-- where a reader stands that has these bytes in hand
abbrev pub state_in : OpenPhase → List ℕ → Bool → Bool → ScriptState
state_in phase pending at_end live =
    record {
      limits = phase.limits;
      names = phase.names;
      line = phase.line;
      ended = phase.ended;
      pending = pending;
      at_end = at_end;
      live = live;
    }

-- the bytes in hand are the start of a line that has no fault yet
pub record IsPart (limits : Limits) (spot : Spot) (rest : List ℕ) : Type 0 where
  pub no_lf : stands_in 10 rest ≡ false
  pub no_fault : 0 < length rest → early_fault limits spot rest ≡ None

-- the lines in hand were read: up to a GO line, or all that have their LF
abbrev pub InHandSays : Limits → Spot → List ℕ → Result Bool ScriptError → Spot → List ℕ → Type 0
InHandSays limits old bytes (Ok true) new rest = (whole : Bool) (more : List ℕ) →
    reading_from whole limits old (bytes ++ more)
    ≡ with_phase new.jobs (reading_from whole limits (behind_go new) (rest ++ more))
InHandSays limits old bytes (Ok false) new rest =
    IsPart limits new rest × (old.size + length bytes ≡ new.size + length rest)
    × ((whole : Bool) (more : List ℕ) → reading_from whole limits old (bytes ++ more)
    ≡ reading_from whole limits new (rest ++ more))
InHandSays limits old bytes (Err NoMemory) new rest = Unit {0}
InHandSays limits old bytes (Err (Fault f)) new rest = (whole : Bool) (more : List ℕ) →
    reading_from whole limits old (bytes ++ more) ≡ no_phase_but old.before f

-- bytes were read up to a GO line, or to the end of the source
abbrev pub ToGoSays : Limits → Spot → List ℕ → Result Bool NextError → Spot → List ℕ
    → Option (List ℕ) → Type 0
ToGoSays limits old bytes (Ok true) new rest after = (whole : Bool) (more : List ℕ) →
    reading_from whole limits old (bytes ++ more)
    ≡ with_phase new.jobs (reading_from whole limits (behind_go new) (rest ++ more))
ToGoSays limits old bytes (Ok false) new rest after =
    IsAtEnd after × (stands_in 10 rest ≡ false)
    × (reading_from true limits old bytes ≡ reading_from true limits new rest)
ToGoSays limits old bytes (Err next.NoMemory) new rest after = Unit {0}
ToGoSays limits old bytes (Err (next.Source faults)) new rest after =
    reading_from false limits old bytes ≡ no_phase old.before
ToGoSays limits old bytes (Err (next.Fault f)) new rest after = (whole : Bool) (more : List ℕ) →
    reading_from whole limits old (bytes ++ more) ≡ no_phase_but old.before f

-- what is read of the bytes in hand with these behind them, which may go on
abbrev pub part_ahead : Limits → Spot → List ℕ → List ℕ → ScriptReading
part_ahead limits spot pending more = reading_from false limits spot (pending ++ more)

-- what was read up to here of the bytes in hand and of those taken
pub record SoFar (limits : Limits) (old : Spot) (pending : List ℕ) (before : Option (List ℕ))
    (spot : Spot) (rest : List ℕ) (after : Option (List ℕ)) : Type 0 where
  pub taken : List ℕ
  pub order : before ≡ prepend_known taken after
  pub size : old.size + length pending + length taken ≡ spot.size + length rest
  pub bound : length taken ≤ limits.phase + limits.line + 65536
  pub needed : IsNeeded (part_ahead limits old pending) old.before taken
  pub read : (whole : Bool) (more : List ℕ) →
      reading_from whole limits old ((pending ++ taken) ++ more)
      ≡ reading_from whole limits spot (rest ++ more)

-- bytes were taken of the source, and read up to a GO line or to its end
pub record TakesToGo (limits : Limits) (old : Spot) (pending : List ℕ) (before : Option (List ℕ))
    (result : Result Bool NextError) (new : Spot) (rest : List ℕ) (after : Option (List ℕ))
    : Type 0 where
  pub taken : List ℕ
  pub order : before ≡ prepend_known taken after
  pub bound : length taken ≤ limits.phase + limits.line + 65536
  pub needed : IsNeeded (part_ahead limits old pending) old.before taken
  pub says : ToGoSays limits old (pending ++ taken) result new rest after

-- the last line was read, which may lack its LF
abbrev pub LastLineSays : Limits → Spot → List ℕ → Result Bool ScriptError → Spot → Type 0
LastLineSays limits old rest (Ok true) new =
    reading_from true limits old rest ≡ with_phase new.jobs (no_phase new.names)
LastLineSays limits old rest (Ok false) new =
    reading_from true limits old rest ≡ end_at new new.place
LastLineSays limits old rest (Err NoMemory) new = Unit {0}
LastLineSays limits old rest (Err (Fault f)) new =
    reading_from true limits old rest ≡ no_phase_but old.before f

-- the last phase was read, where the input has a job or a GO line left
abbrev pub LastPhaseSays : Limits → Spot → List ℕ → Result Bool ScriptError → OpenPhase → Type 0
LastPhaseSays limits old rest (Ok true) new =
    reading_from true limits old rest ≡ with_phase new.jobs.items (no_phase new.names)
LastPhaseSays limits old rest (Ok false) new =
    reading_from true limits old rest ≡ no_phase old.before
LastPhaseSays limits old rest (Err NoMemory) new = Unit {0}
LastPhaseSays limits old rest (Err (Fault f)) new =
    reading_from true limits old rest ≡ no_phase_but old.before f

-- a phase was read that a GO line ends
abbrev pub EndsAtGo : Limits → Spot → List ℕ → OpenPhase → List ℕ → Type 0
EndsAtGo limits old bytes new rest = (whole : Bool) (more : List ℕ) →
    reading_from whole limits old (bytes ++ more) ≡ with_phase new.jobs.items
    (reading_from whole limits (phase_start new.names new.line new.ended) (rest ++ more))

-- a phase was read that the end of the input ends
pub record EndsAtEnd (limits : Limits) (old : Spot) (bytes : List ℕ) (new : OpenPhase)
    (rest : List ℕ) (at_end : Bool) (after : Option (List ℕ)) : Type 0 where
  pub none_left : IsAtEnd after
  pub noted : at_end ≡ true
  pub none_pending : rest ≡ []
  pub read : reading_from true limits old bytes
      ≡ with_phase new.jobs.items (no_phase new.names)

-- a phase was read, or there is none, or it has a fault
abbrev pub PhaseSays : Limits → Spot → List ℕ → Result Bool NextError → OpenPhase → List ℕ → Bool
    → Option (List ℕ) → Type 0
PhaseSays limits old bytes (Ok true) new rest at_end after =
    (at_end ≡ false × EndsAtGo limits old bytes new rest)
    ⊎ EndsAtEnd limits old bytes new rest at_end after
PhaseSays limits old bytes (Ok false) new rest at_end after =
    IsAtEnd after × (reading_from true limits old bytes ≡ no_phase old.before)
PhaseSays limits old bytes (Err next.NoMemory) new rest at_end after = Unit {0}
PhaseSays limits old bytes (Err (next.Source faults)) new rest at_end after =
    reading_from false limits old bytes ≡ no_phase old.before
PhaseSays limits old bytes (Err (next.Fault f)) new rest at_end after =
    ((whole : Bool) (more : List ℕ) →
    reading_from whole limits old (bytes ++ more) ≡ no_phase_but old.before f)
    ⊎ (IsAtEnd after × (reading_from true limits old bytes ≡ no_phase_but old.before f))

-- bytes were taken of the source, and a phase was read of them and of those in hand
pub record TakesPhase (limits : Limits) (old : Spot) (pending : List ℕ) (before : Option (List ℕ))
    (result : Result Bool NextError) (new : OpenPhase) (rest : List ℕ) (at_end : Bool)
    (after : Option (List ℕ)) : Type 0 where
  pub taken : List ℕ
  pub order : before ≡ prepend_known taken after
  pub bound : length taken ≤ limits.phase + limits.line + 65536
  pub needed : IsNeeded (part_ahead limits old pending) old.before taken
  pub says : PhaseSays limits old (pending ++ taken) result new rest at_end after

-- the sessions of the jobs of a phase are named
abbrev pub JobsNamed : OpenPhase → Type 0
JobsNamed phase = All (λ job. job.session < length phase.names) phase.jobs.items

-- what a read of the source comes to
abbrev pub RefillEnds : List ℕ → List ℕ → Result Bool NextError → List ℕ → Option (List ℕ) → Type 0
RefillEnds old taken (Ok true) new after = (new ≡ old ++ taken) × (0 < length taken)
RefillEnds old taken (Ok false) new after = (new ≡ old) × (taken ≡ []) × IsAtEnd after
RefillEnds old taken (Err next.NoMemory) new after = Unit {0}
RefillEnds old taken (Err (next.Source faults)) new after = taken ≡ []
RefillEnds old taken (Err (next.Fault f)) new after = ⊥

-- bytes of the source were put behind those in hand, at most as many as one read takes: some, or
-- none where it is at its end
pub record Refills (old : List ℕ) (before : Option (List ℕ)) (result : Result Bool NextError)
    (new : List ℕ) (after : Option (List ℕ)) : Type 0 where
  pub taken : List ℕ
  pub order : before ≡ prepend_known taken after
  pub bound : length taken ≤ 65536
  pub ends : RefillEnds old taken result new after
