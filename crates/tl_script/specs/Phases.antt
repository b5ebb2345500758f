-- The phases of a script with any number of sessions, and its first fault where it has one.
use Rattle.std.specs.Prelude.{ℕ, ◌+◌, ◌-◌, ◌^◌, Bool, true, false, ◌||◌, not, min, nat_le, nat_lt, List, [], ◌∷◌, ◌++◌, length, Option, Some, None, if◌then◌else◌, codes}
use Rattle.std.specs.List.{position_or_len}
use Rattle.std.specs.Str.{is_utf8}
use Rattle.tl_types.specs.declared.limits.Limits.{Limits}
use Rattle.tl_types.specs.Names.{same_bytes}
use Rattle.tl_script.specs.declared.jobs.ScriptFault.{ScriptFault}
use Rattle.tl_script.specs.declared.jobs.ScriptFault.TheVariants as fault
use Rattle.tl_script.specs.Script.{Job, ScriptReading, lines_of, without_last, text_of, is_passed_over, statement_of, stands_in, has_block, ends_block}

-- STATES

-- outside a block, or in the block of a statement: the number of its session, its line, its text,
-- and the block's bytes so far
pub data Place : Type 0 where
  Outside : Place
  Inside : ℕ → ℕ → List ℕ → List ℕ → Place

-- what was read of the lines before one: the names of the sessions of the phases that GO ended, and
-- of all so far, in order of number; the number of the line; how many GO lines there were; and of
-- the phase that is read the bytes of its lines, its jobs, and whether a block is not ended
pub record Spot : Type 0 where
  pub before : List (List ℕ)
  pub names : List (List ℕ)
  pub line : ℕ
  pub ended : ℕ
  pub size : ℕ
  pub jobs : List Job
  pub place : Place

-- the start of a phase
abbrev pub phase_start : List (List ℕ) → ℕ → ℕ → Spot
phase_start names line ended =
    record {
      before = names;
      names = names;
      line = line;
      ended = ended;
      size = 0;
      jobs = [];
      place = Outside;
    }

-- the start of a script
abbrev pub script_start : Spot
script_start = phase_start [] 1 0

-- the next number; a count stays at the greatest u64 once it is there
abbrev pub next_number : ℕ → ℕ
next_number n = min (n + 1) (2 ^ 64 - 1)

-- what a line does: it has a fault, the phase goes on behind it, or it ends the phase
pub data Step : Type 0 where
  Fails : ScriptFault → Step
  Goes : Spot → Step
  Ends : Step

-- behind a line, with these names and jobs and at this place
abbrev pub behind : Spot → List ℕ → List (List ℕ) → List Job → Place → Spot
behind spot line names jobs place =
    record {
      before = spot.before;
      names = names;
      line = next_number spot.line;
      ended = spot.ended;
      size = spot.size + length line;
      jobs = jobs;
      place = place;
    }

-- behind the GO line that ends a phase
abbrev pub behind_go : Spot → Spot
behind_go spot = phase_start spot.names (next_number spot.line) (next_number spot.ended)

-- SESSIONS

-- the number of a session is the place of its name, from 0
abbrev pub session_number : List (List ℕ) → List ℕ → ℕ
session_number names name = position_or_len (λ known. same_bytes known name) names

-- the names with this one behind them, where it is not among them
abbrev pub with_name : List (List ℕ) → List ℕ → List (List ℕ)
with_name names name =
    if nat_lt (session_number names name) (length names) then names else names ++ (name ∷ [])

-- how many sessions there may be: their numbers are u32
abbrev pub most_sessions : Limits → ℕ
most_sessions limits = min limits.sessions (2 ^ 32 - 1)

-- LINES

-- a job behind those of the phase
abbrev pub with_job : List Job → ℕ → ℕ → List ℕ → Option (List ℕ) → List Job
with_job jobs session line text block =
    jobs ++ (record { session = session; line = line; text = text; block = block } ∷ [])

-- a statement of a session is a job, or begins one that has a block
abbrev pub after_statement : Spot → List ℕ → List ℕ → List ℕ → Spot
after_statement spot line name text =
    if has_block text
    then behind spot line (with_name spot.names name) spot.jobs
    (Inside (session_number spot.names name) spot.line text [])
    else behind spot line (with_name spot.names name)
    (with_job spot.jobs (session_number spot.names name) spot.line text None) Outside

-- a statement, whose session may be one too many
abbrev pub statement : Limits → Spot → List ℕ → List ℕ → List ℕ → Step
statement limits spot line name text =
    if nat_le (most_sessions limits) (session_number spot.names name)
    then Fails (fault.SessionsFull spot.line)
    else Goes (after_statement spot line name text)

-- a line that is a statement of a session, or no line of a script
abbrev pub named : Limits → Spot → List ℕ → Option (List ℕ × List ℕ) → Step
named limits spot line None = Fails (fault.NoSession spot.line)
named limits spot line (Some s) = statement limits spot line s.0 s.1

-- what a line outside a block does
abbrev pub outside : Limits → Spot → List ℕ → Step
outside limits spot line =
    if not (is_utf8 (text_of line)) then Fails (fault.NotUtf8 spot.line)
    else (if is_passed_over (text_of line)
    then Goes (behind spot line spot.names spot.jobs Outside)
    else (if same_bytes (text_of line) (codes "GO") then Ends
    else named limits spot line (statement_of (text_of line))))

-- what a line inside a block does: it ends the block, or is a part of it
abbrev pub inside : Spot → List ℕ → ℕ → ℕ → List ℕ → List ℕ → Step
inside spot line session begun text block =
    if ends_block line
    then Goes (behind spot line spot.names (with_job spot.jobs session begun text (Some block))
    Outside)
    else Goes (behind spot line spot.names spot.jobs (Inside session begun text (block ++ line)))

-- the fault that a line has whatever more stands on it: it stands behind as many GO lines as a
-- script may have, or has too many bytes
abbrev pub early_fault : Limits → Spot → List ℕ → Option ScriptFault
early_fault limits spot line =
    if nat_le limits.phases spot.ended then Some (fault.PhasesFull spot.line)
    else (if nat_lt limits.line (length (without_last 10 line))
    then Some (fault.LineTooLong spot.line) else None)

-- a line with this fault, or without one
abbrev pub unless_early : Option ScriptFault → Step → Step
unless_early (Some f) step = Fails f
unless_early None step = step

-- what a line does at its place
abbrev pub at_place : Limits → Spot → List ℕ → Place → Step
at_place limits spot line Outside = outside limits spot line
at_place limits spot line (Inside session begun text block) =
    inside spot line session begun text block

-- what a line does that fits into its phase or not
abbrev pub in_phase : Limits → Spot → List ℕ → Step
in_phase limits spot line =
    if nat_lt limits.phase (spot.size + length line) then Fails (fault.PhaseTooLong spot.line)
    else at_place limits spot line spot.place

-- what a line does
abbrev pub after_line : Limits → Spot → List ℕ → Step
after_line limits spot line =
    unless_early (early_fault limits spot line) (in_phase limits spot line)

-- what a line does of which more may come: nothing, but for a fault that it has already
abbrev pub after_part : Limits → Spot → List ℕ → Step
after_part limits spot line = unless_early (early_fault limits spot line) (Goes spot)

-- what a line does in the whole input, or in the start of one, where the last line may go on
abbrev pub line_step : Bool → Limits → Spot → List ℕ → Step
line_step whole limits spot line =
    if whole || stands_in 10 line then after_line limits spot line else after_part limits spot line

-- READINGS

-- no further phase, and no fault
abbrev pub no_phase : List (List ℕ) → ScriptReading
no_phase names = record { names = names; phases = []; fault = None }

-- no further phase, and this fault
abbrev pub no_phase_but : List (List ℕ) → ScriptFault → ScriptReading
no_phase_but names f = record { names = names; phases = []; fault = Some f }

-- a phase of these jobs first
abbrev pub with_phase : List Job → ScriptReading → ScriptReading
with_phase jobs more =
    record { names = more.names; phases = jobs ∷ more.phases; fault = more.fault }

-- the lines after the last GO are a phase where they have a job
abbrev pub last_phase : Spot → List Job → ScriptReading
last_phase spot [] = no_phase spot.before
last_phase spot (job ∷ jobs) = with_phase (job ∷ jobs) (no_phase spot.names)

-- what stands at the end of the input: the last phase, or a block that is not ended
abbrev pub end_at : Spot → Place → ScriptReading
end_at spot Outside = last_phase spot spot.jobs
end_at spot (Inside session begun text block) = no_phase_but spot.before (fault.BlockOpen begun)

-- what stands behind all lines of the whole input, or of the start of one
abbrev pub behind_lines : Bool → Spot → ScriptReading
behind_lines true spot = end_at spot spot.place
behind_lines false spot = no_phase spot.before

-- what is read from a line on, where this is read behind it
abbrev pub with_step : Step → Spot → (Spot → ScriptReading) → ScriptReading
with_step (Fails f) spot ahead = no_phase_but spot.before f
with_step (Goes next) spot ahead = ahead next
with_step Ends spot ahead = with_phase spot.jobs (ahead (behind_go spot))

-- what is read of these lines
abbrev pub reading_lines : Bool → Limits → Spot → List (List ℕ) → ScriptReading
reading_lines whole limits spot [] = behind_lines whole spot
reading_lines whole limits spot (line ∷ lines) =
    with_step (line_step whole limits spot line) spot
    (λ next. reading_lines whole limits next lines)

-- what is read of these bytes, the whole rest of the input or the start of it
abbrev pub reading_from : Bool → Limits → Spot → List ℕ → ScriptReading
reading_from whole limits spot bytes = reading_lines whole limits spot (lines_of bytes)

-- what is read of a script: the names of the sessions of its phases, in order of number, the phases
-- before its first fault, and the fault where it has one
abbrev pub reading_of : Limits → List ℕ → ScriptReading
reading_of limits bytes = reading_from true limits script_start bytes

-- what is read of the start of a script: the phases whose GO line, with its LF, is among the bytes,
-- up to the first fault that every script has that begins so
abbrev pub phases_closed : Limits → List ℕ → ScriptReading
phases_closed limits bytes = reading_from false limits script_start bytes
