-- What a reader says between two phases.
use Rattle.std.proofs.Common.{◌≡◌, ℕ, ◌<◌, ◌⊎◌, inl, inr, Bool, true, false, List, [], ◌++◌, length, take, Option, Some, None, Ok, Err, All, refl, ap, sym, ◌∙◌, append_assoc, append-nil, subst}
use Rattle.std.proofs.lemmas.List.Elements.{All-nil}
use Rattle.std.proofs.Math.Seq.{take-length}
use Rattle.tl_types.specs.declared.limits.Limits.{Limits}
use Rattle.tl_script.specs.declared.open_phase.OpenPhase.{OpenPhase}
use Rattle.tl_script.specs.declared.phases.NextError.{NextError}
use Rattle.tl_script.specs.declared.phases.NextError.TheVariants as next
use Rattle.tl_script.specs.declared.phases.Phase.{Phase}
use Rattle.tl_script.specs.Script.{Job}
use Rattle.tl_script.specs.Phases.{Spot, phase_start, reading_from, with_phase, no_phase, no_phase_but}
use Rattle.tl_script.specs.Reader.{Grows, AnswersNext, ComesNext, ComesLast, IsNeeded, StopsFor}
use Rattle.tl_script.specs.InHand.{part_ahead, spot_in, place_of, IsBetween, IsNamed, IsNamedPlace, JobsNamed, TakesPhase, PhaseSays, state_in}

-- the names before a phase of which nothing is read are all
names_before : (phase : OpenPhase) → IsBetween phase → take phase.known phase.names ≡ phase.names
names_before phase between = ap (λ k. take k phase.names) between.known ∙ take-length phase.names

-- all sessions are named where nothing of a phase is read
pub between_named : (phase : OpenPhase) → IsBetween phase → IsNamed (spot_in phase)
between_named phase between =
    record {
      grown = ([], sym (append-nil (take phase.known phase.names) ∙ names_before phase between));
      jobs = subst (λ jobs. All (λ (job : Job). job.session < length phase.names) jobs) (sym between.jobs) (All-nil (λ (job : Job). job.session < length phase.names));
      open_block = subst (λ block. IsNamedPlace (length phase.names) (place_of block)) (sym between.block) tt;
    }

-- the same jobs and names under names of their own
pub named_at : (jobs jobs-2 : List Job) (names names-2 : List (List ℕ)) → jobs-2 ≡ jobs → names-2 ≡ names → All (λ job. job.session < length names) jobs → All (λ job. job.session < length names-2) jobs-2
named_at jobs jobs-2 names names-2 j n h =
    subst (λ js. All (λ (job : Job). job.session < length names-2) js) (sym j) (subst (λ ns. All (λ (job : Job). job.session < length ns) jobs) (sym n) h)

-- names that begin with the same
pub grows_at : (names names-2 more : List (List ℕ)) → names-2 ≡ names → Grows names-2 more → Grows names more
grows_at names names-2 more e h = (h.0, h.1 ∙ ap (λ xs. xs ++ h.0) e)

-- where nothing of a phase is read, its spot is that of the reader
pub between_spot : (phase : OpenPhase) → IsBetween phase → spot_in phase ≡ phase_start phase.names phase.line phase.ended
between_spot phase between =
    let b = names_before phase between in
    let p : place_of phase.block ≡ place_of None = ap place_of between.block in
    cc (b, p, between.size, between.jobs)

-- what was needed of the source
pub needed_between : (phase : OpenPhase) (pending taken : List ℕ) → IsBetween phase → IsNeeded (part_ahead phase.limits (spot_in phase) pending) (spot_in phase).before taken
    → IsNeeded (part_ahead phase.limits (phase_start phase.names phase.line phase.ended) pending) phase.names taken
needed_between phase pending taken between needed =
    subst (λ s. IsNeeded (part_ahead phase.limits s pending) s.before taken) (between_spot phase between) needed

-- A PHASE IS GIVEN

-- a reader at the end of its input reads nothing
pub nothing_left : (limits : Limits) (names : List (List ℕ)) (line ended : ℕ) (rest : List ℕ) → rest ≡ [] → reading_from true limits (phase_start names line ended) (rest ++ []) ≡ no_phase names
nothing_left limits names line ended rest e = ap (λ r. reading_from true limits (phase_start names line ended) (r ++ [])) e

-- what is read behind a phase, under names of its own
behind_phase : (whole : Bool) (limits limits-2 : Limits) (jobs jobs-2 : List Job) (names names-2 : List (List ℕ)) (line line-2 ended ended-2 : ℕ) (bytes : List ℕ)
    → limits-2 ≡ limits → jobs-2 ≡ jobs → names-2 ≡ names → line-2 ≡ line → ended-2 ≡ ended
    → with_phase jobs (reading_from whole limits (phase_start names line ended) bytes) ≡ with_phase jobs-2 (reading_from whole limits-2 (phase_start names-2 line-2 ended-2) bytes)
behind_phase whole limits limits-2 jobs jobs-2 names names-2 line line-2 ended ended-2 bytes l j n m g =
    ap (λ l. with_phase jobs (reading_from whole l (phase_start names line ended) bytes)) (sym l)
    ∙ (ap (λ j. with_phase j (reading_from whole limits-2 (phase_start names line ended) bytes)) (sym j)
    ∙ (ap (λ n. with_phase jobs-2 (reading_from whole limits-2 (phase_start n line ended) bytes)) (sym n)
    ∙ (ap (λ m. with_phase jobs-2 (reading_from whole limits-2 (phase_start names-2 m ended) bytes)) (sym m)
    ∙ ap (λ g. with_phase jobs-2 (reading_from whole limits-2 (phase_start names-2 line-2 g) bytes)) (sym g))))

-- a phase that was read comes next of the reader
comes : (old found last : OpenPhase) (pending taken rest : List ℕ) (old_end live at_end : Bool) (after : Option (List ℕ)) (jobs : List Job) → IsBetween old
    → last.limits ≡ old.limits → jobs ≡ found.jobs.items → last.names ≡ found.names → last.line ≡ found.line → last.ended ≡ found.ended
    → PhaseSays old.limits (spot_in old) (pending ++ taken) (Ok true) found rest at_end after
    → (at_end ≡ false × ComesNext (state_in old pending old_end live) taken jobs (state_in last rest at_end true)) ⊎ ComesLast (state_in old pending old_end live) taken jobs (state_in last rest at_end true) after
comes old found last pending taken rest old_end live at_end after jobs between l j n m g (inl go) =
    inl (
      go.0,
      λ whole more.
          ap (reading_from whole old.limits (phase_start old.names old.line old.ended)) (sym (append_assoc pending taken more))
          ∙ (ap (λ s. reading_from whole old.limits s ((pending ++ taken) ++ more)) (sym (between_spot old between))
          ∙ (go.1 whole more
          ∙ behind_phase whole old.limits last.limits found.jobs.items jobs found.names last.names found.line last.line found.ended last.ended (rest ++ more) l j n m g)),
    )
comes old found last pending taken rest old_end live at_end after jobs between l j n m g (inr end) =
    inr (record {
      none_left = end.none_left;
      noted = end.noted;
      none_pending = end.none_pending;
      read = ap (λ s. reading_from true old.limits s (pending ++ taken)) (sym (between_spot old between))
          ∙ (end.read
          ∙ (ap (λ names. with_phase found.jobs.items (no_phase names)) (sym n)
          ∙ (ap (λ jobs. with_phase jobs (no_phase last.names)) (sym j)
          ∙ ap (with_phase jobs) (sym (nothing_left last.limits last.names last.line last.ended rest end.none_pending)))));
    })

pub gives : (old found last : OpenPhase) (pending rest : List ℕ) (old_end live at_end : Bool) (before after : Option (List ℕ)) (phase : Phase) → IsBetween old → old_end ≡ false
    → TakesPhase old.limits (spot_in old) pending before (Ok true) found rest at_end after
    → found.limits ≡ old.limits → JobsNamed found → Grows (spot_in old).before found.names
    → last.limits ≡ found.limits → phase.jobs.items ≡ found.jobs.items → last.names ≡ found.names → last.line ≡ found.line → last.ended ≡ found.ended
    → AnswersNext (state_in old pending old_end live) before (Ok (Some phase)) (state_in last rest at_end true) after
gives old found last pending rest old_end live at_end before after phase between on takes l-1 is_named grown l-2 j n m g =
    record {
      taken = takes.taken;
      order = takes.order;
      bound = takes.bound;
      needed = needed_between old pending takes.taken between takes.needed;
      idle = λ e. absurd (let f = sym on ∙ e in cc);
      says = record {
        limits = l-2 ∙ l-1;
        live = refl;
        names = (grown.0, n ∙ (grown.1 ∙ ap (λ names. names ++ grown.0) (names_before old between)));
        sessions = named_at found.jobs.items phase.jobs.items found.names last.names j n is_named;
        comes = comes old found last pending takes.taken rest old_end live at_end after phase.jobs.items between (l-2 ∙ l-1) j n m g takes.says;
      };
    }

-- NO PHASE IS GIVEN

-- why a reader stops
cause_between : (old found : OpenPhase) (pending taken rest : List ℕ) (old_end live at_end : Bool) (after : Option (List ℕ)) (e : NextError) → IsBetween old
    → PhaseSays old.limits (spot_in old) (pending ++ taken) (Err e) found rest at_end after → StopsFor (state_in old pending old_end live) taken e after
cause_between old found pending taken rest old_end live at_end after next.NoMemory between says = tt
cause_between old found pending taken rest old_end live at_end after (next.Source faults) between says =
    subst (λ s. reading_from false old.limits s (pending ++ taken) ≡ no_phase s.before) (between_spot old between) says
cause_between old found pending taken rest old_end live at_end after (next.Fault f) between (inl says) =
    inl (λ whole more.
    ap (reading_from whole old.limits (phase_start old.names old.line old.ended)) (sym (append_assoc pending taken more))
    ∙ subst (λ s. reading_from whole old.limits s ((pending ++ taken) ++ more) ≡ no_phase_but s.before f) (between_spot old between) (says whole more))
cause_between old found pending taken rest old_end live at_end after (next.Fault f) between (inr says) =
    inr (record {
      none_left = says.0;
      read = subst (λ s. reading_from true old.limits s (pending ++ taken) ≡ no_phase_but s.before f) (between_spot old between) says.1;
    })

pub stops : (old found last : OpenPhase) (pending rest : List ℕ) (old_end live at_end : Bool) (before after : Option (List ℕ)) (e : NextError) → IsBetween old → old_end ≡ false
    → TakesPhase old.limits (spot_in old) pending before (Err e) found rest at_end after
    → (spot_in found).before ≡ (spot_in old).before → last.names ≡ (spot_in found).before
    → AnswersNext (state_in old pending old_end live) before (Err e) (state_in last rest at_end false) after
stops old found last pending rest old_end live at_end before after e between on takes same names =
    record {
      taken = takes.taken;
      order = takes.order;
      bound = takes.bound;
      needed = needed_between old pending takes.taken between takes.needed;
      idle = λ f. absurd (let g = sym on ∙ f in cc);
      says = record {
        ends = refl;
        names = names ∙ (same ∙ names_before old between);
        cause = cause_between old found pending takes.taken rest old_end live at_end after e between takes.says;
      };
    }

-- what a test says of the answer
pub phase_found : (limits : Limits) (old : Spot) (pending : List ℕ) (before : Option (List ℕ)) (found : Bool) (new : OpenPhase) (rest : List ℕ) (at_end : Bool) (after : Option (List ℕ))
    → found ≡ true → TakesPhase limits old pending before (Ok found) new rest at_end after → TakesPhase limits old pending before (Ok true) new rest at_end after
phase_found limits old pending before found new rest at_end after e h = subst (λ b. TakesPhase limits old pending before (Ok b) new rest at_end after) e h
