-- What the reader of a script says of the bytes that it takes of a source.
use Rattle.std.specs.Prelude.{◌≡◌, ℕ, ◌+◌, ◌<◌, ◌≤◌, ◌⊎◌, Bool, true, false, List, [], ◌∷◌, ◌++◌, length, codes, Option, Some, None, Result, Ok, Err, All}
use Rattle.tl_types.specs.declared.limits.Limits.{Limits}
use Rattle.tl_device.specs.Known.{prepend_known, Rose}
use Rattle.tl_script.specs.declared.jobs.ScriptFault.{ScriptFault}
use Rattle.tl_script.specs.declared.jobs.ScriptError.{ScriptError}
use Rattle.tl_script.specs.declared.jobs.ScriptError.TheVariants as script
use Rattle.tl_script.specs.declared.phases.NextError.{NextError}
use Rattle.tl_script.specs.declared.phases.NextError.TheVariants as next
use Rattle.tl_script.specs.declared.phases.Phase.{Phase}
use Rattle.tl_script.specs.Script.{Job, ScriptReading, load_of}
use Rattle.tl_script.specs.Taking.{IsAtEnd}
use Rattle.tl_script.specs.Phases.{Spot, phase_start, reading_from, with_phase, no_phase, no_phase_but}

-- a reader between two phases: how much there may be, the names of the sessions so far, in order of
-- number, the number of the next line, how many GO lines were read, the bytes that are taken of the
-- source and not read, whether the source is at its end, and whether a phase may still come
pub record ScriptState : Type 0 where
  pub limits : Limits
  pub names : List (List ℕ)
  pub line : ℕ
  pub ended : ℕ
  pub pending : List ℕ
  pub at_end : Bool
  pub live : Bool

-- where a reader stands that has read nothing yet
abbrev pub new_state : Limits → ScriptState
new_state limits =
    record {
      limits = limits;
      names = [];
      line = 1;
      ended = 0;
      pending = [];
      at_end = false;
      live = true;
    }

-- the line from which a reader reads on
abbrev pub spot_of : ScriptState → Spot
spot_of state = phase_start state.names state.line state.ended

-- what a reader still reads where these bytes follow those that it has, and the input ends there or
-- may go on
abbrev pub reading_ahead : Bool → ScriptState → List ℕ → ScriptReading
reading_ahead whole state bytes =
    reading_from whole state.limits (spot_of state) (state.pending ++ bytes)

-- the error of the bytes in hand, as one of the reader
abbrev pub next_error : ScriptError → NextError
next_error script.NoMemory = next.NoMemory
next_error (script.Fault f) = next.Fault f

-- a phase comes next, whatever follows the bytes that were taken
abbrev pub ComesNext : ScriptState → List ℕ → List Job → ScriptState → Type 0
ComesNext old taken jobs new = (whole : Bool) (more : List ℕ) →
    reading_ahead whole old (taken ++ more) ≡ with_phase jobs (reading_ahead whole new more)

-- a phase comes next, and no byte is left behind it
pub record ComesLast (old : ScriptState) (taken : List ℕ) (jobs : List Job) (new : ScriptState)
    (left : Option (List ℕ)) : Type 0 where
  pub none_left : IsAtEnd left
  pub noted : new.at_end ≡ true
  pub none_pending : new.pending ≡ []
  pub read : reading_ahead true old taken ≡ with_phase jobs (reading_ahead true new [])

-- the second list begins with the first
abbrev pub Grows : List (List ℕ) → List (List ℕ) → Type 0
Grows names more_names = (more : List (List ℕ)) × (more_names ≡ names ++ more)

-- a phase was read
pub record GivesPhase (old : ScriptState) (taken : List ℕ) (jobs : List Job) (new : ScriptState)
    (left : Option (List ℕ)) : Type 0 where
  pub limits : new.limits ≡ old.limits
  pub live : new.live ≡ true
  pub names : Grows old.names new.names
  pub sessions : All (λ job. job.session < length new.names) jobs
  pub comes : (new.at_end ≡ false × ComesNext old taken jobs new)
      ⊎ ComesLast old taken jobs new left

-- the input ends with no further phase
pub record IsDone (old : ScriptState) (taken : List ℕ) (new : ScriptState)
    (left : Option (List ℕ)) : Type 0 where
  pub none_left : old.at_end ≡ false → IsAtEnd left
  pub ends : new.live ≡ false
  pub names : new.names ≡ old.names
  pub read : reading_ahead true old taken ≡ no_phase old.names

-- the next phase has this fault, whatever follows the bytes that were taken
abbrev pub IsFaulty : ScriptState → List ℕ → ScriptFault → Type 0
IsFaulty old taken f = (whole : Bool) (more : List ℕ) →
    reading_ahead whole old (taken ++ more) ≡ no_phase_but old.names f

-- the next phase has this fault, and no byte is left
pub record IsFaultyAtEnd (old : ScriptState) (taken : List ℕ) (f : ScriptFault)
    (left : Option (List ℕ)) : Type 0 where
  pub none_left : IsAtEnd left
  pub read : reading_ahead true old taken ≡ no_phase_but old.names f

-- why no phase was read: its fault is that of the bytes taken; the source failed before these had a
-- whole phase or a fault; memory ran out
abbrev pub StopsFor : ScriptState → List ℕ → NextError → Option (List ℕ) → Type 0
StopsFor old taken next.NoMemory left = Unit {0}
StopsFor old taken (next.Source faults) left = reading_ahead false old taken ≡ no_phase old.names
StopsFor old taken (next.Fault f) left = IsFaulty old taken f ⊎ IsFaultyAtEnd old taken f left

-- no phase was read, and none will be
pub record ReadStops (old : ScriptState) (taken : List ℕ) (e : NextError) (new : ScriptState)
    (left : Option (List ℕ)) : Type 0 where
  pub ends : new.live ≡ false
  pub names : new.names ≡ old.names
  pub cause : StopsFor old taken e left

-- what a call says of the bytes that it took
abbrev pub SaysNext : ScriptState → List ℕ → Result (Option Phase) NextError → ScriptState
    → Option (List ℕ) → Type 0
SaysNext old taken (Ok (Some phase)) new left = GivesPhase old taken phase.jobs.items new left
SaysNext old taken (Ok None) new left = IsDone old taken new left
SaysNext old taken (Err e) new left = ReadStops old taken e new left

-- the source was asked for bytes while those in hand had neither a whole phase nor a fault, at
-- first and before the last read; `ahead` is what is read of the bytes in hand with these behind
-- them
pub record WasAsked (ahead : List ℕ → ScriptReading) (names : List (List ℕ)) (taken : List ℕ)
    : Type 0 where
  pub in_hand : ahead [] ≡ no_phase names
  pub front : List ℕ
  pub last : List ℕ
  pub parts : taken ≡ front ++ last
  pub bound : length last ≤ 65536
  pub undecided : ahead front ≡ no_phase names

-- nothing is taken of the source where the bytes in hand decide
abbrev pub IsNeeded : (List ℕ → ScriptReading) → List (List ℕ) → List ℕ → Type 0
IsNeeded ahead names taken = (taken ≡ []) ⊎ WasAsked ahead names taken

-- a call took bytes of a source, no more than the lines of a phase, a line and one read have, and
-- none where those in hand decided, and says this of them; where the source is at its end already
-- none is taken and none comes
pub record AnswersNext (old : ScriptState) (before : Option (List ℕ))
    (answer : Result (Option Phase) NextError) (new : ScriptState) (after : Option (List ℕ))
    : Type 0 where
  pub taken : List ℕ
  pub order : before ≡ prepend_known taken after
  pub bound : length taken ≤ old.limits.phase + old.limits.line + 65536
  pub needed : IsNeeded (reading_ahead false old) old.names taken
  pub idle : old.at_end ≡ true → (taken ≡ []) × (answer ≡ Ok None)
  pub says : SaysNext old taken answer new after

-- being out of memory, or a fault of the bytes, leaves the count of faults; a fault of the source
-- raised it to the count that is handed on
abbrev pub NextFaults : NextError → ℕ → ℕ → Type 0
NextFaults next.NoMemory before now = now ≡ before
NextFaults (next.Source faults) before now = (faults ≡ now) × Rose before now
NextFaults (next.Fault f) before now = now ≡ before

-- RUNS

-- these phases first
abbrev pub with_phases : List (List Job) → ScriptReading → ScriptReading
with_phases phases more =
    record { names = more.names; phases = phases ++ more.phases; fault = more.fault }

-- LOADING

-- the whole input is the block of one job of the session `load`, in one phase
abbrev pub LoadSays : Limits → List ℕ → List ℕ → Result Phase NextError → Option (List ℕ) → Type 0
LoadSays limits text taken (Ok phase) left =
    IsAtEnd left × (load_of limits.phase text taken
    ≡ with_phase phase.jobs.items (no_phase (codes "load" ∷ [])))
LoadSays limits text taken (Err next.NoMemory) left = Unit {0}
LoadSays limits text taken (Err (next.Source faults)) left = length taken ≤ limits.phase
LoadSays limits text taken (Err (next.Fault f)) left = (more : List ℕ) →
    load_of limits.phase text (taken ++ more) ≡ no_phase_but [] f

-- a whole input was taken as a block, or what was taken of it shows why it is none
pub record Loads (limits : Limits) (text : List ℕ) (before : Option (List ℕ))
    (answer : Result Phase NextError) (after : Option (List ℕ)) : Type 0 where
  pub taken : List ℕ
  pub order : before ≡ prepend_known taken after
  pub bound : length taken ≤ limits.phase + 65536
  pub says : LoadSays limits text taken answer after

-- bytes of a source were taken up to its end, or more than so many
pub record TakesBlock (most : ℕ) (before : Option (List ℕ)) (block : List ℕ)
    (after : Option (List ℕ)) : Type 0 where
  pub order : before ≡ prepend_known block after
  pub bound : length block ≤ most + 65536
  pub ends : (most < length block) ⊎ IsAtEnd after

-- why a block was not taken: the source failed before more bytes than so many, or memory ran out
abbrev pub IsBlockError : ℕ → List ℕ → NextError → Type 0
IsBlockError most taken next.NoMemory = Unit {0}
IsBlockError most taken (next.Source faults) = length taken ≤ most
IsBlockError most taken (next.Fault f) = ⊥

-- a read failed before more than so many bytes were taken, or memory ran out
pub record FailsBlock (most : ℕ) (before : Option (List ℕ)) (e : NextError)
    (after : Option (List ℕ)) : Type 0 where
  pub taken : List ℕ
  pub order : before ≡ prepend_known taken after
  pub bound : length taken ≤ most + 65536
  pub says : IsBlockError most taken e
