-- The names of the sessions of a script that is read on: those so far stay the first, and there are
-- no more than there may be.
use Rattle.std.proofs.Common.{◌≡◌, ℕ, ◌+◌, ◌<◌, ◌≤◌, nat_lt, nat_le, Bool, true, false, ◌||◌, List, [], ◌∷◌, ◌++◌, length, length-append, Option, Some, None, refl, sym, ap, ◌∙◌, subst, arith, append_assoc, append-nil, codes}
use Rattle.std.proofs.lemmas.Bool.Decides.{nat_tests}
use Rattle.std.specs.Str.{is_utf8}
use Rattle.tl_types.specs.declared.limits.Limits.{Limits}
use Rattle.tl_types.specs.Names.{same_bytes}
use Rattle.tl_script.specs.declared.jobs.ScriptFault.{ScriptFault}
use Rattle.tl_script.specs.Script.{Job, lines_of, text_of, is_passed_over, statement_of, has_block, stands_in, ends_block}
use Rattle.tl_script.specs.Phases.{Place, Outside, Inside, Spot, Step, Fails, Goes, Ends, behind_go, session_number, most_sessions, with_name, statement, after_statement, outside, inside, early_fault, unless_early, at_place, in_phase, line_step, last_phase, behind_lines, reading_lines, reading_from}
use Rattle.tl_script.specs.Reader.{Grows}

pub grows_itself : (xs : List (List ℕ)) → Grows xs xs
grows_itself xs = ([], sym (append-nil xs))

pub grows_on : (xs ys zs : List (List ℕ)) → Grows xs ys → Grows ys zs → Grows xs zs
grows_on xs ys zs (a, e) (b, f) = (a ++ b, f ∙ (ap (λ l. l ++ b) e ∙ append_assoc xs a b))

pub not_longer : (xs ys : List (List ℕ)) → Grows xs ys → length xs ≤ length ys
not_longer xs ys (a, e) = omega (arith, ap length e, length-append xs a)

-- the names after a step: those before are the first, and they are not too many
abbrev Keeps : ℕ → List (List ℕ) → List (List ℕ) → Type 0
Keeps most old new = Grows old new × (length old ≤ most → length new ≤ most)

keeps_itself : (most : ℕ) (names : List (List ℕ)) → Keeps most names names
keeps_itself most names = (grows_itself names, λ h. h)

name_kept : (most : ℕ) (names : List (List ℕ)) (name : List ℕ) → session_number names name < most → Keeps most names (with_name names name)
name_kept most names name few = by_test (nat_lt (session_number names name) (length names)) refl where
  by_test : (t : Bool) → nat_lt (session_number names name) (length names) ≡ t → Keeps most names (with_name names name)
  by_test true e = rw e (keeps_itself most names)
  by_test false e =
      let past : length names ≤ session_number names name = grind (arith, nat_tests) in
      rw e ((name ∷ [], refl), λ h. omega (arith, length-append names (name ∷ []), past, few))

-- what a step does to the names
abbrev StepKeeps : ℕ → Spot → Step → Type 0
StepKeeps most spot (Fails f) = Unit {0}
StepKeeps most spot (Goes next) = (next.before ≡ spot.before) × Keeps most spot.names next.names
StepKeeps most spot Ends = Unit {0}

statement_kept : (limits : Limits) (spot : Spot) (line name text : List ℕ) → StepKeeps (most_sessions limits) spot (statement limits spot line name text)
statement_kept limits spot line name text = by_full (nat_le (most_sessions limits) (session_number spot.names name)) refl where
  by_full : (t : Bool) → nat_le (most_sessions limits) (session_number spot.names name) ≡ t → StepKeeps (most_sessions limits) spot (statement limits spot line name text)
  by_full true e = rw e tt
  by_full false e =
      let few : session_number spot.names name < most_sessions limits = grind (arith, nat_tests) in
      rw e (by_block (has_block text) refl few) where
        by_block : (t : Bool) → has_block text ≡ t → session_number spot.names name < most_sessions limits → StepKeeps (most_sessions limits) spot (Goes (after_statement spot line name text))
        by_block true e few = rw e (refl, name_kept (most_sessions limits) spot.names name few)
        by_block false e few = rw e (refl, name_kept (most_sessions limits) spot.names name few)

outside_kept : (limits : Limits) (spot : Spot) (line : List ℕ) → StepKeeps (most_sessions limits) spot (outside limits spot line)
outside_kept limits spot line = by_utf8 (is_utf8 (text_of line)) refl where
  by_statement : (o : Option (List ℕ × List ℕ)) → statement_of (text_of line) ≡ o → is_utf8 (text_of line) ≡ true → is_passed_over (text_of line) ≡ false → same_bytes (text_of line) (codes "GO") ≡ false → StepKeeps (most_sessions limits) spot (outside limits spot line)
  by_statement None e u p g = rw (u, p, g, e) tt
  by_statement (Some (name, text)) e u p g = rw (u, p, g, e) (statement_kept limits spot line name text)

  by_go : (t : Bool) → same_bytes (text_of line) (codes "GO") ≡ t → is_utf8 (text_of line) ≡ true → is_passed_over (text_of line) ≡ false → StepKeeps (most_sessions limits) spot (outside limits spot line)
  by_go true e u p = rw (u, p, e) tt
  by_go false e u p = by_statement (statement_of (text_of line)) refl u p e

  by_passed : (t : Bool) → is_passed_over (text_of line) ≡ t → is_utf8 (text_of line) ≡ true → StepKeeps (most_sessions limits) spot (outside limits spot line)
  by_passed true e u = rw (u, e) (refl, keeps_itself (most_sessions limits) spot.names)
  by_passed false e u = by_go (same_bytes (text_of line) (codes "GO")) refl u e

  by_utf8 : (t : Bool) → is_utf8 (text_of line) ≡ t → StepKeeps (most_sessions limits) spot (outside limits spot line)
  by_utf8 true e = by_passed (is_passed_over (text_of line)) refl e
  by_utf8 false e = rw e tt

inside_kept : (most : ℕ) (spot : Spot) (line : List ℕ) (session begun : ℕ) (text block : List ℕ) → StepKeeps most spot (inside spot line session begun text block)
inside_kept most spot line session begun text block = by_end (ends_block line) refl where
  by_end : (t : Bool) → ends_block line ≡ t → StepKeeps most spot (inside spot line session begun text block)
  by_end true e = rw e (refl, keeps_itself most spot.names)
  by_end false e = rw e (refl, keeps_itself most spot.names)

at_place_kept : (limits : Limits) (spot : Spot) (line : List ℕ) (place : Place) → StepKeeps (most_sessions limits) spot (at_place limits spot line place)
at_place_kept limits spot line Outside = outside_kept limits spot line
at_place_kept limits spot line (Inside session begun text block) = inside_kept (most_sessions limits) spot line session begun text block

in_phase_kept : (limits : Limits) (spot : Spot) (line : List ℕ) → StepKeeps (most_sessions limits) spot (in_phase limits spot line)
in_phase_kept limits spot line = by_test (nat_lt limits.phase (spot.size + length line)) refl where
  by_test : (t : Bool) → nat_lt limits.phase (spot.size + length line) ≡ t → StepKeeps (most_sessions limits) spot (in_phase limits spot line)
  by_test true e = rw e tt
  by_test false e = rw e (at_place_kept limits spot line spot.place)

unless_kept : (most : ℕ) (spot : Spot) (f : Option ScriptFault) (step : Step) → StepKeeps most spot step → StepKeeps most spot (unless_early f step)
unless_kept most spot (Some f) step h = tt
unless_kept most spot None step h = h

step_kept : (whole : Bool) (limits : Limits) (spot : Spot) (line : List ℕ) → StepKeeps (most_sessions limits) spot (line_step whole limits spot line)
step_kept whole limits spot line = by_test (whole || stands_in 10 line) refl where
  by_test : (t : Bool) → (whole || stands_in 10 line) ≡ t → StepKeeps (most_sessions limits) spot (line_step whole limits spot line)
  by_test true e = rw e (unless_kept (most_sessions limits) spot (early_fault limits spot line) (in_phase limits spot line) (in_phase_kept limits spot line))
  by_test false e = rw e (unless_kept (most_sessions limits) spot (early_fault limits spot line) (Goes spot) (refl, keeps_itself (most_sessions limits) spot.names))

-- the names of the phases before are the first, and none of the names of a spot are too many
abbrev pub Stands : ℕ → Spot → Type 0
Stands most spot = Grows spot.before spot.names

last_kept : (most : ℕ) (spot : Spot) (jobs : List Job) → Grows spot.before spot.names → Grows spot.before (last_phase spot jobs).names × (length spot.names ≤ most → length (last_phase spot jobs).names ≤ most)
last_kept most spot [] g = (grows_itself spot.before, λ h. let k = not_longer spot.before spot.names g in omega (arith, h, k))
last_kept most spot (job ∷ jobs) g = (g, λ h. h)

end_kept : (most : ℕ) (whole : Bool) (spot : Spot) → Grows spot.before spot.names → Grows spot.before (behind_lines whole spot).names × (length spot.names ≤ most → length (behind_lines whole spot).names ≤ most)
end_kept most false spot g = (grows_itself spot.before, λ h. let k = not_longer spot.before spot.names g in omega (arith, h, k))
end_kept most true spot g = by_place spot.place refl where
  by_place : (p : Place) → spot.place ≡ p → Grows spot.before (behind_lines true spot).names × (length spot.names ≤ most → length (behind_lines true spot).names ≤ most)
  by_place Outside e = rw e (last_kept most spot spot.jobs g)
  by_place (Inside session begun text block) e = rw e (grows_itself spot.before, λ h. let k = not_longer spot.before spot.names g in omega (arith, h, k))

lines_kept : (whole : Bool) (limits : Limits) (spot : Spot) (lines : List (List ℕ)) → Grows spot.before spot.names → Grows spot.before (reading_lines whole limits spot lines).names × (length spot.names ≤ most_sessions limits → length (reading_lines whole limits spot lines).names ≤ most_sessions limits)
lines_kept whole limits spot [] g = end_kept (most_sessions limits) whole spot g
lines_kept whole limits spot (line ∷ lines) g = by_step (line_step whole limits spot line) refl (step_kept whole limits spot line) (λ next. lines_kept whole limits next lines) where
  by_step : (s : Step) → line_step whole limits spot line ≡ s → StepKeeps (most_sessions limits) spot s
      → ((next : Spot) → Grows next.before next.names → Grows next.before (reading_lines whole limits next lines).names × (length next.names ≤ most_sessions limits → length (reading_lines whole limits next lines).names ≤ most_sessions limits))
      → Grows spot.before (reading_lines whole limits spot (line ∷ lines)).names × (length spot.names ≤ most_sessions limits → length (reading_lines whole limits spot (line ∷ lines)).names ≤ most_sessions limits)
  by_step (Fails f) e k later = rw e (grows_itself spot.before, λ h. let l = not_longer spot.before spot.names g in omega (arith, h, l))
  by_step (Goes next) e (same, kept) later =
      let inner = later next (subst (λ (b : List (List ℕ)). Grows b next.names) (sym same) (grows_on spot.before spot.names next.names g kept.0)) in
      rw e (subst (λ (b : List (List ℕ)). Grows b (reading_lines whole limits next lines).names) same inner.0, λ h. inner.1 (kept.1 h))
  by_step Ends e k later =
      let inner = later (behind_go spot) (grows_itself spot.names) in
      rw e (grows_on spot.before spot.names (reading_lines whole limits (behind_go spot) lines).names g inner.0, λ h. inner.1 h)

-- what is read behind the start of a phase
pub names_kept : (whole : Bool) (limits : Limits) (spot : Spot) (bytes : List ℕ) → spot.before ≡ spot.names → Grows spot.names (reading_from whole limits spot bytes).names × (length spot.names ≤ most_sessions limits → length (reading_from whole limits spot bytes).names ≤ most_sessions limits)
names_kept whole limits spot bytes same =
    let inner = lines_kept whole limits spot (lines_of bytes) (subst (λ (b : List (List ℕ)). Grows b spot.names) (sym same) (grows_itself spot.names)) in
    (subst (λ (b : List (List ℕ)). Grows b (reading_from whole limits spot bytes).names) same inner.0, inner.1)
