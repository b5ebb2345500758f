-- What the bytes in hand say of what is read, whatever follows them.
use Rattle.std.proofs.Common.{◌≡◌, ◌⊎◌, inl, inr, ℕ, ◌+◌, ◌-◌, ◌<◌, ◌≤◌, ◌==◌, Bool, true, false, ltb, List, [], ◌∷◌, ◌++◌, length, take, drop, Option, Some, None, Result, Ok, Err, IfOk, refl, ap, sym, ◌∙◌, arith, not, nat_lt, nat_le, append_assoc, append-nil, length-append, subst}
use Rattle.std.proofs.lemmas.Bool.{ltb-true, ltb-false, lt-ltb}
use Rattle.std.proofs.lemmas.List.Sums.{prefix_len-le-length}
use Rattle.std.proofs.Math.Seq.{take-append_seam}
use Rattle.std.specs.List.{position_or_len}
use Rattle.tl_types.specs.declared.limits.Limits.{Limits}
use Rattle.tl_device.specs.Known.{prepend_known}
use Rattle.tl_device.proofs.Known.{prepend_both}
use Rattle.tl_script.specs.declared.jobs.ScriptFault.{ScriptFault}
use Rattle.tl_script.specs.Script.{ScriptReading, lines_of, before_lines, without_last, stands_in}
use Rattle.tl_script.specs.Phases.{Spot, Step, Fails, Goes, Ends, early_fault, after_line, line_step, with_step, reading_lines, reading_from, with_phase, no_phase, no_phase_but, end_at}
use Rattle.tl_script.specs.Reader.{IsNeeded, WasAsked}
use Rattle.tl_script.specs.InHand.{IsPart, IsNamed, StepIs, SoFar, ReadsLines, ahead_of, part_ahead, InHandSays, TakesToGo, LastLineSays, RefillEnds}
use Rattle.tl_script.specs.Taking.{IsAtEnd}
use Rattle.tl_script.specs.declared.lines_in_hand.Found.{Found}
use Rattle.tl_script.specs.declared.jobs.ScriptError.{ScriptError}
use Rattle.tl_script.specs.declared.jobs.ScriptError.TheVariants.{NoMemory, Fault}
use Rattle.tl_script.specs.declared.phases.NextError.{NextError}
use Rattle.tl_script.specs.declared.phases.NextError.TheVariants as next
use Rattle.tl_script.proofs.SpotLemmas.{line_goes}
use Rattle.tl_script.proofs.ScriptLemmas.{is_lf, line_goes_on, last_line, stands_in_by_position}

-- PARTS OF LINES

no_lf_length : (bytes : List ℕ) → stands_in 10 bytes ≡ false → position_or_len is_lf bytes ≡ length bytes
no_lf_length bytes h =
    let e : ltb (position_or_len is_lf bytes) (length bytes) ≡ false = sym (stands_in_by_position 10 bytes) ∙ h in
    omega (arith, ltb-false _ _ e, prefix_len-le-length (λ x. not (is_lf x)) bytes)

-- a byte that is no LF, and no LF behind it
no_lf_parts : (b : ℕ) (bytes : List ℕ) → stands_in 10 (b ∷ bytes) ≡ false → (is_lf b ≡ false) × (stands_in 10 bytes ≡ false)
no_lf_parts b bytes h = by_test (b == 10) refl where
  by_test : (t : Bool) → (b == 10) ≡ t → (is_lf b ≡ false) × (stands_in 10 bytes ≡ false)
  by_test true e = absurd (let f = rw e at h in cc)
  by_test false e = (e, rw e at h)

-- bytes without LF are the start of one line
no_lf_begins : (bytes more : List ℕ) → stands_in 10 bytes ≡ false → 0 < length bytes → (front : List ℕ) × ((lines : List (List ℕ)) × (lines_of (bytes ++ more) ≡ (bytes ++ front) ∷ lines))
no_lf_begins [] more h some = absurd (omega arith)
no_lf_begins (b ∷ []) more h some = by_lines (lines_of more) refl where
  alone : lines_of (b ∷ more) ≡ before_lines b (lines_of more)
  alone = rw ((no_lf_parts b [] h).0) refl

  by_lines : (lines : List (List ℕ)) → lines_of more ≡ lines → (front : List ℕ) × ((lines : List (List ℕ)) × (lines_of (b ∷ more) ≡ (b ∷ front) ∷ lines))
  by_lines [] e = ([], ([], alone ∙ ap (before_lines b) e))
  by_lines (line ∷ lines) e = (line, (lines, alone ∙ ap (before_lines b) e))
no_lf_begins (b ∷ c ∷ bytes) more h some =
    let parts = no_lf_parts b (c ∷ bytes) h in
    let ih = no_lf_begins (c ∷ bytes) more parts.1 (omega arith) in
    (ih.0, (ih.1.0, line_goes_on b ((c ∷ bytes) ++ more) _ _ parts.0 ih.1.1))

-- a part of a line is one line where nothing follows
no_lf_alone : (bytes : List ℕ) → stands_in 10 bytes ≡ false → 0 < length bytes → lines_of bytes ≡ bytes ∷ []
no_lf_alone [] h some = absurd (omega arith)
no_lf_alone (b ∷ bytes) h some = last_line b bytes (no_lf_length (b ∷ bytes) h)

-- a line without its LF has that LF's byte less
without_last_length : (xs : List ℕ) → length xs ≤ length (without_last 10 xs) + 1
without_last_length [] = omega arith
without_last_length (x ∷ []) = by_test (x == 10) refl where
  by_test : (t : Bool) → (x == 10) ≡ t → 1 ≤ length (without_last 10 (x ∷ [])) + 1
  by_test true e = rw e (omega arith)
  by_test false e = rw e (omega arith)
without_last_length (x ∷ y ∷ xs) = let ih = without_last_length (y ∷ xs) in omega arith

-- bytes without LF
without_last_same : (xs : List ℕ) → stands_in 10 xs ≡ false → without_last 10 xs ≡ xs
without_last_same [] h = refl
without_last_same (x ∷ []) h = rw ((no_lf_parts x [] h).0) refl
without_last_same (x ∷ y ∷ xs) h = ap (λ r. x ∷ r) (without_last_same (y ∷ xs) (no_lf_parts x (y ∷ xs) h).1)

-- what more makes of a part of a line has as many bytes
part_grows : (part front : List ℕ) → stands_in 10 part ≡ false → length part ≤ length (without_last 10 (part ++ front))
part_grows part [] h = let e : without_last 10 (part ++ []) ≡ part = ap (without_last 10) (append-nil part) ∙ without_last_same part h in let len = ap length e in omega arith
part_grows part (x ∷ front) h =
    let less = without_last_length (part ++ (x ∷ front)) in
    let len : length (part ++ (x ∷ front)) ≡ length part + length (x ∷ front) = length-append part (x ∷ front) in
    let more : length (x ∷ front) ≡ length front + 1 = omega arith in omega arith

-- a fault that a part of a line has already stays
early_stays : (limits : Limits) (spot : Spot) (part front : List ℕ) (f : ScriptFault) → stands_in 10 part ≡ false → early_fault limits spot part ≡ Some f → early_fault limits spot (part ++ front) ≡ Some f
early_stays limits spot part front f h e = by_go (nat_le limits.phases spot.ended) refl where
  by_line : (u : Bool) → nat_le limits.phases spot.ended ≡ false → nat_lt limits.line (length (without_last 10 part)) ≡ u → early_fault limits spot (part ++ front) ≡ Some f
  by_line true t u =
      let few = ltb-true _ _ u in
      let same = ap length (without_last_same part h) in
      let long : limits.line < length (without_last 10 (part ++ front)) = omega (arith, few, same, part_grows part front h) in
      let g = rw (t, u) at e in
      rw (t, lt-ltb _ _ long) g
  by_line false t u = absurd (let g = rw (t, u) at e in cc)

  by_go : (t : Bool) → nat_le limits.phases spot.ended ≡ t → early_fault limits spot (part ++ front) ≡ Some f
  by_go true t = rw t (rw t at e)
  by_go false t = by_line (nat_lt limits.line (length (without_last 10 part))) t refl

-- a line with such a fault
early_step : (whole : Bool) (limits : Limits) (spot : Spot) (line : List ℕ) (f : ScriptFault) → early_fault limits spot line ≡ Some f → line_step whole limits spot line ≡ Fails f
early_step true limits spot line f e = rw e refl
early_step false limits spot line f e = by_test (stands_in 10 line) refl where
  by_test : (t : Bool) → stands_in 10 line ≡ t → line_step false limits spot line ≡ Fails f
  by_test true t = rw (t, e) refl
  by_test false t = rw (t, e) refl

-- a part of a line that has a fault already
pub part_faulty : (limits : Limits) (spot : Spot) (part : List ℕ) (f : ScriptFault) → stands_in 10 part ≡ false → 0 < length part → early_fault limits spot part ≡ Some f
    → (whole : Bool) (more : List ℕ) → reading_from whole limits spot (part ++ more) ≡ no_phase_but spot.before f
part_faulty limits spot part f h some e whole more =
    let begins = no_lf_begins part more h some in
    ap (reading_lines whole limits spot) begins.1.1
    ∙ ap (λ step. with_step step spot (λ next. reading_lines whole limits next begins.1.0)) (early_step whole limits spot (part ++ begins.0) f (early_stays limits spot part begins.0 f h e))

-- a part of a line that has none says nothing yet
pub part_silent : (limits : Limits) (spot : Spot) (part : List ℕ) → IsPart limits spot part → reading_from false limits spot part ≡ no_phase spot.before
part_silent limits spot [] is_part = refl
part_silent limits spot (b ∷ bytes) is_part =
    let some : 0 < length (b ∷ bytes) = omega arith in
    let step : line_step false limits spot (b ∷ bytes) ≡ Goes spot = rw (is_part.no_lf, is_part.no_fault some) refl in
    ap (reading_lines false limits spot) (no_lf_alone (b ∷ bytes) is_part.no_lf some)
    ∙ ap (λ step. with_step step spot (λ next. reading_lines false limits next [])) step

-- and it is no longer than a line may be
pub part_short : (limits : Limits) (spot : Spot) (part : List ℕ) → IsPart limits spot part → length part ≤ limits.line
part_short limits spot [] is_part = omega arith
part_short limits spot (b ∷ bytes) is_part = by_go (nat_le limits.phases spot.ended) refl where
  none : early_fault limits spot (b ∷ bytes) ≡ None
  none = is_part.no_fault (omega arith)

  by_line : (u : Bool) → nat_le limits.phases spot.ended ≡ false → nat_lt limits.line (length (without_last 10 (b ∷ bytes))) ≡ u → length (b ∷ bytes) ≤ limits.line
  by_line true t u = absurd (let g = rw (t, u) at none in cc)
  by_line false t u = let same = ap length (without_last_same (b ∷ bytes) is_part.no_lf) in let few = ltb-false _ _ u in omega arith

  by_go : (t : Bool) → nat_le limits.phases spot.ended ≡ t → length (b ∷ bytes) ≤ limits.line
  by_go true t = absurd (let g = rw t at none in cc)
  by_go false t = by_line (nat_lt limits.line (length (without_last 10 (b ∷ bytes)))) t refl

-- THE LAST LINE

-- what is read of the last line, which lacks its LF
pub last_step : (limits : Limits) (spot : Spot) (line : List ℕ) (step : Step) → stands_in 10 line ≡ false → 0 < length line → after_line limits spot line ≡ step
    → reading_from true limits spot line ≡ with_step step spot (λ next. end_at next next.place)
last_step limits spot line step h some e =
    ap (reading_lines true limits spot) (no_lf_alone line h some)
    ∙ ap (λ step. with_step step spot (λ next. end_at next next.place)) e

-- some bytes
pub some_bytes : (xs : List ℕ) → (length xs == 0) ≡ false → 0 < length xs
some_bytes [] h = absurd (cc)
some_bytes (x ∷ xs) h = omega arith

-- what was read of the last line
pub last_says : (limits : Limits) (old new : Spot) (line : List ℕ) (r : Result Bool ScriptError) → stands_in 10 line ≡ false → 0 < length line → StepIs (after_line limits old line) r old new → LastLineSays limits old line r new
last_says limits old new line (Ok true) h some step = last_step limits old line Ends h some step.0 ∙ ap (λ (s : Spot). with_phase s.jobs (no_phase s.names)) (sym step.1)
last_says limits old new line (Ok false) h some step = last_step limits old line (Goes new) h some step
last_says limits old new line (Err NoMemory) h some step = tt
last_says limits old new line (Err (Fault f)) h some step = last_step limits old line (Fails f) h some step

pub last_named : (limits : Limits) (old new : Spot) (line : List ℕ) (r : Result Bool ScriptError) → StepIs (after_line limits old line) r old new → IsNamed old → IfOk r (λ _. IsNamed new)
last_named limits old new line (Ok true) step h = subst IsNamed (sym step.1) h
last_named limits old new line (Ok false) step h = (line_goes limits old line new step).is_named h
last_named limits old new line (Err e) step h = tt

-- THE BYTES IN HAND

-- lines that were read without a GO line
lines_on : (limits : Limits) (old new : Spot) (bytes : List ℕ) (found : Found) → ReadsLines limits old bytes found new → found.ends ≡ false
    → (whole : Bool) (more : List ℕ) → reading_from whole limits old (bytes ++ more) ≡ reading_from whole limits new (drop found.used bytes ++ more)
lines_on limits old new bytes found h e whole more = h.read whole more ∙ ap (λ ends. ahead_of ends whole limits new (drop found.used bytes ++ more)) e

-- a fault of the start of the last line in hand
pub hand_faulty : (limits limits-2 : Limits) (old spot : Spot) (pending bytes passed part : List ℕ) (found : Found) (f : ScriptFault) (e : ScriptError)
    → bytes ≡ pending → passed ≡ drop found.used pending → part ≡ passed → limits-2 ≡ limits → e ≡ Fault f → spot.before ≡ old.before
    → ReadsLines limits old bytes found spot → found.ends ≡ false → (0 < length part) × (early_fault limits-2 spot part ≡ Some f)
    → InHandSays limits old pending (Err e) spot passed
hand_faulty limits limits-2 old spot pending bytes passed part found f e b p q l is_fault before lines ends early =
    let rest : part ≡ drop found.used bytes = q ∙ (p ∙ ap (drop found.used) (sym b)) in
    let no_lf : stands_in 10 part ≡ false = ap (stands_in 10) rest ∙ lines.rest ends in
    let is_early : early_fault limits spot part ≡ Some f = ap (λ l. early_fault l spot part) (sym l) ∙ early.1 in
    let says : (whole : Bool) (more : List ℕ) → reading_from whole limits old (pending ++ more) ≡ no_phase_but old.before f =
    λ whole more. ap (λ xs. reading_from whole limits old (xs ++ more)) (sym b)
    ∙ (lines_on limits old spot bytes found lines ends whole more
    ∙ (ap (λ xs. reading_from whole limits spot (xs ++ more)) (sym rest)
    ∙ (part_faulty limits spot part f no_lf early.0 is_early whole more
    ∙ ap (λ names. no_phase_but names f) before))) in
    subst (λ e. InHandSays limits old pending (Err e) spot passed) (sym is_fault) says

-- ONE READ MORE

-- nothing follows
nothing_more : (bytes : List ℕ) (spot : Spot) (limits : Limits) (whole : Bool) → reading_from whole limits spot (bytes ++ []) ≡ reading_from whole limits spot bytes
nothing_more bytes spot limits whole = ap (reading_from whole limits spot) (append-nil bytes)

-- one read more was needed where what was taken before it did not decide
asked_again : (ahead : List ℕ → ScriptReading) (names : List (List ℕ)) (taken more : List ℕ) → IsNeeded ahead names taken → ahead taken ≡ no_phase names → length more ≤ 65536
    → IsNeeded ahead names (taken ++ more)
asked_again ahead names taken more needed undecided few =
    inr (record { in_hand = at_first needed; front = taken; last = more; parts = refl; bound = few; undecided = undecided }) where
      at_first : IsNeeded ahead names taken → ahead [] ≡ no_phase names
      at_first (inl none) = ap ahead (sym none) ∙ undecided
      at_first (inr asked) = asked.in_hand

-- what was read before a read, and the bytes that it took
pub read_more : (limits limits-2 : Limits) (old spot new : Spot) (pending rest rest-2 taken : List ℕ) (before middle after : Option (List ℕ))
    → limits-2 ≡ limits → SoFar limits old pending before spot rest middle → InHandSays limits-2 spot rest (Ok false) new rest-2 → new.size ≤ limits.phase
    → new.before ≡ old.before → middle ≡ prepend_known taken after → length taken ≤ 65536 → SoFar limits old pending before new (rest-2 ++ taken) after
read_more limits limits-2 old spot new pending rest rest-2 taken before middle after l so_far says-2 fits same order few =
    let says = subst (λ l. InHandSays l spot rest (Ok false) new rest-2) l says-2 in
    let short = part_short limits new rest-2 says.0 in
    let both : length (so_far.taken ++ taken) ≡ length so_far.taken + length taken = length-append so_far.taken taken in
    let both_rest : length (rest-2 ++ taken) ≡ length rest-2 + length taken = length-append rest-2 taken in
    let undecided : part_ahead limits old pending so_far.taken ≡ no_phase old.before =
    sym (nothing_more (pending ++ so_far.taken) old limits false)
    ∙ (so_far.read false []
    ∙ (says.2 false []
    ∙ (nothing_more rest-2 new limits false
    ∙ (part_silent limits new rest-2 says.0
    ∙ ap no_phase same)))) in
    record {
      taken = so_far.taken ++ taken;
      order = so_far.order ∙ (ap (prepend_known so_far.taken) order ∙ sym (prepend_both so_far.taken taken after));
      size = omega (arith, so_far.size, says.1, both, both_rest);
      bound = omega (arith, so_far.size, says.1, short, fits, few, both);
      needed = asked_again (part_ahead limits old pending) old.before so_far.taken taken so_far.needed undecided few;
      read = λ whole more.
          ap (reading_from whole limits old) (ap (λ xs. xs ++ more) (sym (append_assoc pending so_far.taken taken)) ∙ append_assoc (pending ++ so_far.taken) taken more)
          ∙ (so_far.read whole (taken ++ more)
          ∙ (says.2 whole (taken ++ more)
          ∙ ap (reading_from whole limits new) (sym (append_assoc rest-2 taken more))));
    }

-- the source is at its end
pub end_found : (limits : Limits) (old new : Spot) (pending rest rest-2 taken : List ℕ) (before after : Option (List ℕ))
    → SoFar limits old pending before new (rest ++ taken) after → stands_in 10 rest ≡ false → rest-2 ≡ rest → taken ≡ [] → IsAtEnd after
    → TakesToGo limits old pending before (Ok false) new rest-2 after
end_found limits old new pending rest rest-2 taken before after so_far no_lf same none at_end =
    let joined : rest ++ taken ≡ rest-2 = ap (λ xs. rest ++ xs) none ∙ (append-nil rest ∙ sym same) in
    record {
      taken = so_far.taken;
      order = so_far.order;
      bound = so_far.bound;
      needed = so_far.needed;
      says = (at_end, ap (stands_in 10) same ∙ no_lf, sym (nothing_more (pending ++ so_far.taken) old limits true) ∙ (so_far.read true [] ∙ (nothing_more (rest ++ taken) new limits true ∙ ap (reading_from true limits new) joined)));
    }

-- a read failed, or memory ran out
pub read_failed : (limits : Limits) (old new : Spot) (pending rest rest-2 taken : List ℕ) (before after : Option (List ℕ)) (e : NextError)
    → SoFar limits old pending before new (rest ++ taken) after → IsPart limits new rest → new.before ≡ old.before → RefillEnds rest taken (Err e) rest-2 after
    → TakesToGo limits old pending before (Err e) new rest-2 after
read_failed limits old new pending rest rest-2 taken before after next.NoMemory so_far is_part b ends = record { taken = so_far.taken; order = so_far.order; bound = so_far.bound; needed = so_far.needed; says = tt }
read_failed limits old new pending rest rest-2 taken before after (next.Fault f) so_far is_part b ends = absurd ends
read_failed limits old new pending rest rest-2 taken before after (next.Source faults) so_far is_part b none =
    let joined : rest ++ taken ≡ rest = ap (λ xs. rest ++ xs) none ∙ append-nil rest in
    record {
      taken = so_far.taken;
      order = so_far.order;
      bound = so_far.bound;
      needed = so_far.needed;
      says = sym (nothing_more (pending ++ so_far.taken) old limits false) ∙ (so_far.read false [] ∙ (nothing_more (rest ++ taken) new limits false ∙ (ap (reading_from false limits new) joined ∙ (part_silent limits new rest is_part ∙ ap no_phase b))));
    }

-- bytes that were searched have no LF
pub searched_before : (old new taken : List ℕ) → new ≡ old ++ taken → stands_in 10 old ≡ false → (length old ≤ length new) × (stands_in 10 (take (length old) new) ≡ false)
searched_before old new taken e h =
    (omega (arith, ap length e, length-append old taken), ap (λ xs. stands_in 10 (take (length old) xs)) e ∙ (ap (stands_in 10) (take-append_seam old taken) ∙ h))

-- what a test says of a call's answer
pub no_go : (limits : Limits) (old new : Spot) (bytes rest : List ℕ) (ends : Bool) → ends ≡ false → InHandSays limits old bytes (Ok ends) new rest → InHandSays limits old bytes (Ok false) new rest
no_go limits old new bytes rest ends e h = subst (λ b. InHandSays limits old bytes (Ok b) new rest) e h

pub some_read : (old taken new : List ℕ) (after : Option (List ℕ)) (some : Bool) → some ≡ true → RefillEnds old taken (Ok some) new after → (new ≡ old ++ taken) × (0 < length taken)
some_read old taken new after some e h = subst (λ b. RefillEnds old taken (Ok b) new after) e h

pub none_read : (old taken new : List ℕ) (after : Option (List ℕ)) (some : Bool) → some ≡ false → RefillEnds old taken (Ok some) new after → (new ≡ old) × (taken ≡ []) × IsAtEnd after
none_read old taken new after some e h = subst (λ b. RefillEnds old taken (Ok b) new after) e h

-- a read brings the loop nearer to its bound
pub nearer : (most size size-2 rest rest-2 all taken : ℕ) → size + rest ≡ size-2 + rest-2 → size-2 + rest-2 ≤ most → all ≡ rest-2 + taken → 0 < taken → (most + 65537) - (size-2 + all) < (most + 65537) - (size + rest)
nearer most size size-2 rest rest-2 all taken a b c d = omega arith

-- the same where the bytes in hand have a name of their own
pub so_far_at : (limits : Limits) (old spot : Spot) (pending xs ys : List ℕ) (before after : Option (List ℕ)) → ys ≡ xs → SoFar limits old pending before spot xs after → SoFar limits old pending before spot ys after
so_far_at limits old spot pending xs ys before after e h = subst (λ zs. SoFar limits old pending before spot zs after) (sym e) h
