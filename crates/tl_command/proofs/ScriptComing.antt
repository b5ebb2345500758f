-- The phases of a script come one after the other.
use Rattle.std.proofs.Common.{◌≡◌, ◌⊎◌, inl, inr, ℕ, ◌+◌, ◌<◌, ◌≤◌, take, drop, length-take, length-drop, take-append-drop, Bool, true, false, List, [], ◌∷◌, ◌++◌, length, All, slice_index_or, zero, suc, nat_lt, Option, Some, None, Result, Ok, Err, refl, sym, ap, ◌∙◌, subst, arith}
use Rattle.std.proofs.lemmas.Bool.Decides.{nat_tests}
use Rattle.tl_types.specs.declared.limits.Limits.{Limits}
use Rattle.tl_types.specs.Limits.{standard_limits}
use Rattle.tl_script.specs.declared.phases.NextError.{NextError}
use Rattle.tl_script.specs.declared.phases.NextError.TheVariants as next
use Rattle.tl_script.specs.declared.phases.Phase.{Phase}
use Rattle.tl_script.specs.Script.{Job, ScriptReading, load_of, job_with}
use Rattle.tl_script.specs.Phases.{with_phase, no_phase, most_sessions, reading_from}
use Rattle.tl_script.specs.Reader.{ScriptState, new_state, spot_of, reading_ahead, Grows, ComesNext, ComesLast, IsNeeded, Loads, LoadSays}
use Rattle.tl_script.specs.Reader as reader
use Rattle.tl_script.specs.Taking.{IsAtEnd}
use Rattle.tl_command.specs.Coming.{Comes, BringsPhase, BringsNone, SaysComing, AnswersComing, script_coming, loader_names, block_coming, block_reads, HasNotBegun}
use Rattle.tl_command.proofs.NamesLemmas.{names_kept, not_longer, grows_itself}

-- nothing is ahead where nothing is pending
nothing_ahead : (state : ScriptState) → state.pending ≡ [] → reading_ahead true state [] ≡ no_phase state.names
nothing_ahead state none = ap (λ b. reading_from true state.limits (spot_of state) (b ++ [])) none

ahead_known : (state : ScriptState) (more : List ℕ) → Grows state.names (reading_ahead true state more).names
ahead_known state more = (names_kept true state.limits (spot_of state) (state.pending ++ more) refl).0

ahead_few : (state : ScriptState) (more : List ℕ) → length state.names ≤ most_sessions state.limits → length (reading_ahead true state more).names ≤ most_sessions state.limits
ahead_few state more few = (names_kept true state.limits (spot_of state) (state.pending ++ more) refl).1 few

-- what comes behind a phase is at most as much as what came before it
names_in : (old new : ScriptState) (taken : List ℕ) (jobs : List Job) (left : Option (List ℕ)) → (new.at_end ≡ false × ComesNext old taken jobs new) ⊎ ComesLast old taken jobs new left → (bytes : List ℕ) × Grows new.names (reading_ahead true old bytes).names
names_in old new taken jobs left (inl (open_, next)) = (taken ++ [], subst (λ (r : ScriptReading). Grows new.names r.names) (sym (next true [])) (ahead_known new []))
names_in old new taken jobs left (inr last) = (taken, subst (λ (r : ScriptReading). Grows new.names r.names) (sym last.read) (ahead_known new []))

few_in : (old new : ScriptState) (taken : List ℕ) (jobs : List Job) (left : Option (List ℕ)) → (new.at_end ≡ false × ComesNext old taken jobs new) ⊎ ComesLast old taken jobs new left → length old.names ≤ most_sessions old.limits → length new.names ≤ most_sessions old.limits
few_in old new taken jobs left comes few =
    let within = names_in old new taken jobs left comes in
    let a = ahead_few old within.0 few in
    let b = not_longer new.names (reading_ahead true old within.0).names within.1 in
    omega (arith, a, b)

comes : (old new : ScriptState) (taken : List ℕ) (jobs : List Job) (left : Option (List ℕ)) → (new.at_end ≡ false × ComesNext old taken jobs new) ⊎ ComesLast old taken jobs new left → Comes (script_coming old) taken jobs (script_coming new) left
comes old new taken jobs left (inl (open_, next)) = inl next
comes old new taken jobs left (inr last) = inr (last.none_left, last.noted, last.read ∙ ap (with_phase jobs) (nothing_ahead new last.none_pending))

left_none : (old new : ScriptState) (taken : List ℕ) (jobs : List Job) (left : Option (List ℕ)) → (new.at_end ≡ false × ComesNext old taken jobs new) ⊎ ComesLast old taken jobs new left → new.at_end ≡ true → IsAtEnd left
left_none old new taken jobs left (inl (open_, next)) e = absurd (cc)
left_none old new taken jobs left (inr last) e = last.none_left

gives : (old new : ScriptState) (taken : List ℕ) (jobs : List Job) (left : Option (List ℕ)) → reader.GivesPhase old taken jobs new left → BringsPhase (script_coming old) taken jobs (script_coming new) left
gives old new taken jobs left h =
    record {
      live = h.live;
      names = h.names;
      most = ap most_sessions h.limits;
      few = few_in old new taken jobs left h.comes;
      known = ahead_known new;
      sessions = h.sessions;
      ended = left_none old new taken jobs left h.comes;
      comes = comes old new taken jobs left h.comes;
    }

stops : (old : ScriptState) (taken : List ℕ) (e : NextError) (left : Option (List ℕ)) → reader.StopsFor old taken e left → BringsNone (script_coming old) taken e left
stops old taken next.NoMemory left h = tt
stops old taken (next.Source faults) left h = h
stops old taken (next.Fault f) left (inl always) = inl (λ more. always true more)
stops old taken (next.Fault f) left (inr end) = inr (end.none_left, end.read)

says : (old new : ScriptState) (taken : List ℕ) (answer : Result (Option Phase) NextError) (left : Option (List ℕ)) → reader.SaysNext old taken answer new left → SaysComing (script_coming old) taken answer (script_coming new) left
says old new taken (Ok (Some phase)) left h = gives old new taken phase.jobs.items left h
says old new taken (Ok None) left h = record { none_left = h.none_left; read = h.read }
says old new taken (Err e) left h = stops old taken e left h.cause

pub script_answers : (old new : ScriptState) (before : Option (List ℕ)) (answer : Result (Option Phase) NextError) (after : Option (List ℕ)) → reader.AnswersNext old before answer new after → AnswersComing (script_coming old) before answer (script_coming new) after
script_answers old new before answer after h =
    record { taken = h.taken; order = h.order; needed = h.needed; idle = h.idle; says = says old new h.taken answer after h.says }

-- a new script is fresh, and what it reads is the whole script
pub new_script_fresh : (limits : Limits) → most_sessions limits < 65536 → HasNotBegun (script_coming (new_state limits))
new_script_fresh limits few =
    record { live = refl; at_end = refl; few = omega arith; most = few; known = ahead_known (new_state limits) }

-- A BLOCK

-- the one job of a block is the first session's
one_job : (text bytes : List ℕ) (jobs : List Job) → load_of standard_limits.phase text bytes ≡ with_phase jobs (no_phase loader_names) → jobs ≡ job_with 1 text (Some bytes) ∷ []
one_job text bytes jobs e = by_test (nat_lt standard_limits.phase (length bytes)) refl where
  first : List (List Job) → List Job
  first [] = []
  first (x ∷ xs) = x

  by_test : (t : Bool) → nat_lt standard_limits.phase (length bytes) ≡ t → jobs ≡ job_with 1 text (Some bytes) ∷ []
  by_test true t = absurd (let f = rw t at e in let g : [] ≡ jobs ∷ [] = ap (λ (r : ScriptReading). r.phases) f in cc)
  by_test false t = let f = rw t at e in sym (ap (λ (r : ScriptReading). first r.phases) f)

first_alone : (text bytes : List ℕ) (jobs : List Job) → jobs ≡ job_with 1 text (Some bytes) ∷ [] → All (λ job. job.session < 1) jobs
first_alone text bytes jobs e = rw e (λ k d inside. at k d inside) where
  at : (k : ℕ) (d : Job) → k < 1 → (slice_index_or (job_with 1 text (Some bytes) ∷ []) k d).session < 1
  at zero d inside = omega arith
  at (suc k) d inside = absurd (omega (arith, inside))

-- a block that is not too long decides nothing before the end of its source
undecided : (text bytes : List ℕ) → length bytes ≤ standard_limits.phase → block_reads text false bytes ≡ no_phase []
undecided text bytes few = rw (not_less standard_limits.phase (length bytes) few) refl where
  not_less : (a b : ℕ) → b ≤ a → nat_lt a b ≡ false
  not_less a b le = grind (arith, nat_tests)

-- all but the last read of a block's bytes is not too long
block_needed : (text bytes : List ℕ) → length bytes ≤ standard_limits.phase + 65536 → IsNeeded (block_reads text false) [] bytes
block_needed text bytes bound =
    let most = standard_limits.phase in
    inr (record {
      in_hand = undecided text [] (omega arith);
      front = take most bytes;
      last = drop most bytes;
      parts = sym (take-append-drop most bytes);
      bound = omega (arith, bound, length-drop most bytes);
      undecided = undecided text (take most bytes) (omega (arith, length-take most bytes));
    })

-- the whole source is the block
pub block_given : (text : List ℕ) (before after : Option (List ℕ)) (phase : Phase) → Loads standard_limits text before (Ok phase) after → AnswersComing (block_coming text false) before (Ok (Some phase)) (block_coming text true) after
block_given text before after phase h = record {
  taken = h.taken;
  order = h.order;
  needed = block_needed text h.taken h.bound;
  idle = λ e. absurd (cc);
  says = record {
    live = refl;
    names = (loader_names, refl);
    most = refl;
    few = λ z. omega arith;
    known = λ more. grows_itself loader_names;
    sessions = first_alone text h.taken phase.jobs.items (one_job text h.taken phase.jobs.items h.says.1);
    ended = λ e. h.says.0;
    comes = inr (h.says.0, refl, h.says.1);
  };
}

-- why the source gave no block
no_block : (text taken : List ℕ) (e : NextError) (after : Option (List ℕ)) → LoadSays standard_limits text taken (Err e) after → BringsNone (block_coming text false) taken e after
no_block text taken next.NoMemory after h = tt
no_block text taken (next.Source faults) after h = undecided text taken h
no_block text taken (next.Fault f) after h = inl h

-- or it gave none
pub block_missing : (text : List ℕ) (before after : Option (List ℕ)) (e : NextError) → Loads standard_limits text before (Err e) after → AnswersComing (block_coming text false) before (Err e) (block_coming text false) after
block_missing text before after e h = record {
  taken = h.taken;
  order = h.order;
  needed = block_needed text h.taken h.bound;
  idle = λ i. absurd (cc);
  says = no_block text h.taken e after h.says;
}
