-- What one line after the other does, and what may follow them.
use Rattle.std.proofs.Common.{◌≡◌, ℕ, ◌+◌, ◌-◌, ◌<◌, ◌≤◌, ◌==◌, zero, Bool, true, false, ltb, List, [], ◌∷◌, ◌++◌, length, take, drop, Option, Some, None, refl, ap, sym, ◌∙◌, arith, suc, not, ◌||◌, nat_lt, nat_le, append_assoc, append-nil, Ok, length-append, All, subst, codes}
use Rattle.std.proofs.lemmas.Bool.{ltb-true, ltb-false, lt-ltb}
use Rattle.std.proofs.lemmas.Grind.{common_steps}
use Rattle.std.proofs.lemmas.List.{take-append-drop, drop-drop, length-take-le, length-drop}
use Rattle.std.proofs.lemmas.List.Elements.{All-push, All-weaker}
use Rattle.std.proofs.lemmas.List.Sums.{prefix_len-le-length}
use Rattle.std.specs.List.{position_or_len, position}
use Rattle.std.specs.Str.{is_utf8}
use Rattle.tl_types.specs.declared.limits.Limits.{Limits}
use Rattle.tl_types.specs.Names.{same_bytes}
use Rattle.tl_script.specs.declared.jobs.ScriptFault.{ScriptFault}
use Rattle.tl_script.specs.Script.{Job, lines_of, text_of, is_passed_over, statement_of, stands_in, has_block, ends_block}
use Rattle.tl_script.specs.Phases.{Place, Outside, Inside, Spot, Step, Goes, behind, session_number, with_name, most_sessions, with_job, after_statement, named, outside, inside, early_fault, unless_early, at_place, in_phase, after_line, line_step, with_step, reading_lines, reading_from}
use Rattle.tl_script.specs.InHand.{BeginsLine, IsNamed, IsNamedPlace, StepIs}
use Rattle.tl_script.proofs.ScriptLemmas.{is_lf, line_goes_on, position_some, position_none, stands_in_by_position}

-- NAMES

-- what is found at its place, or not found
pub name_found : (p : List ℕ → Bool) (xs : List (List ℕ)) (at : ℕ) → position p xs ≡ Some at → (position_or_len p xs ≡ at) × (at < length xs)
name_found p xs at h = by_test (ltb (position_or_len p xs) (length xs)) refl where
  by_test : (t : Bool) → ltb (position_or_len p xs) (length xs) ≡ t → (position_or_len p xs ≡ at) × (at < length xs)
  by_test true e = let f : position_or_len p xs ≡ at = (let g = rw e at h in cc) in (f, omega (arith, ltb-true _ _ e))
  by_test false e = absurd (let f = rw e at h in cc)

pub name_not_found : (p : List ℕ → Bool) (xs : List (List ℕ)) → position p xs ≡ None → position_or_len p xs ≡ length xs
name_not_found p xs h = by_test (ltb (position_or_len p xs) (length xs)) refl where
  by_test : (t : Bool) → ltb (position_or_len p xs) (length xs) ≡ t → position_or_len p xs ≡ length xs
  by_test true e = absurd (let f = rw e at h in cc)
  by_test false e = omega (arith, ltb-false _ _ e, prefix_len-le-length (λ x. not (p x)) xs)

-- a name that is among the names changes nothing
pub with_old_name : (names : List (List ℕ)) (name : List ℕ) → session_number names name < length names → with_name names name ≡ names
with_old_name names name h = rw (lt-ltb _ _ h) refl

-- LINES

-- a byte stands in two parts where it stands in one
pub stands_in-append : (b : ℕ) (xs ys : List ℕ) → stands_in b (xs ++ ys) ≡ (stands_in b xs || stands_in b ys)
stands_in-append b [] ys = refl
stands_in-append b (x ∷ xs) ys = by_test (x == b) refl (stands_in-append b xs ys) where
  by_test : (t : Bool) → (x == b) ≡ t → stands_in b (xs ++ ys) ≡ (stands_in b xs || stands_in b ys) → stands_in b ((x ∷ xs) ++ ys) ≡ (stands_in b (x ∷ xs) || stands_in b ys)
  by_test true e h = rw e refl
  by_test false e h = rw e h

-- the bytes have no LF where no part has one
pub no_line_end : (bytes : List ℕ) (n : ℕ) → stands_in 10 (take n bytes) ≡ false → position is_lf (drop n bytes) ≡ None → stands_in 10 bytes ≡ false
no_line_end bytes n front h =
    let len = position_none is_lf (drop n bytes) h in
    let behind : stands_in 10 (drop n bytes) ≡ false = stands_in_by_position 10 (drop n bytes) ∙ (ap (λ k. ltb k (length (drop n bytes))) len ∙ grind (arith, common_steps)) in
    let both = stands_in-append 10 (take n bytes) (drop n bytes) in
    ap (stands_in 10) (sym (take-append-drop n bytes)) ∙ (both ∙ rw (front, behind) refl)

-- where no LF stands in the first bytes, the first one stands behind them
lf_behind : (bytes : List ℕ) (n : ℕ) → n ≤ length bytes → stands_in 10 (take n bytes) ≡ false → position_or_len is_lf bytes ≡ n + position_or_len is_lf (drop n bytes)
lf_behind bytes zero within h = omega arith
lf_behind [] (suc n) within h = absurd (omega arith)
lf_behind (b ∷ bytes) (suc n) within h = by_test (is_lf b) refl (lf_behind bytes n) where
  by_test : (t : Bool) → is_lf b ≡ t → (n ≤ length bytes → stands_in 10 (take n bytes) ≡ false → position_or_len is_lf bytes ≡ n + position_or_len is_lf (drop n bytes)) → position_or_len is_lf (b ∷ bytes) ≡ suc n + position_or_len is_lf (drop n bytes)
  by_test true e more = absurd (let f = rw e at h in cc)
  by_test false e more =
      let f : stands_in 10 (take n bytes) ≡ false = rw e at h in
      let m = more (omega arith) f in
      rw e (omega (arith, m))

-- the first line ends with the first LF, whatever follows
first_ends : (bytes more : List ℕ) → position_or_len is_lf bytes < length bytes → lines_of (bytes ++ more) ≡ take (position_or_len is_lf bytes + 1) bytes ∷ lines_of (drop (position_or_len is_lf bytes + 1) bytes ++ more)
first_ends [] more h = absurd (omega arith)
first_ends (b ∷ bytes) more h = by_test (is_lf b) refl (first_ends bytes more) where
  by_test : (t : Bool) → is_lf b ≡ t → (position_or_len is_lf bytes < length bytes → lines_of (bytes ++ more) ≡ take (position_or_len is_lf bytes + 1) bytes ∷ lines_of (drop (position_or_len is_lf bytes + 1) bytes ++ more)) → lines_of ((b ∷ bytes) ++ more) ≡ take (position_or_len is_lf (b ∷ bytes) + 1) (b ∷ bytes) ∷ lines_of (drop (position_or_len is_lf (b ∷ bytes) + 1) (b ∷ bytes) ++ more)
  by_test true e ih = rw (e)
  by_test false e ih =
      let h' : position_or_len is_lf bytes < length bytes = omega (arith, rw e at h) in
      let n : position_or_len is_lf (b ∷ bytes) + 1 ≡ suc (position_or_len is_lf bytes + 1) = rw e (omega arith) in
      line_goes_on b (bytes ++ more) _ _ e (ih h') ∙ ap (λ n. take n (b ∷ bytes) ∷ lines_of (drop n (b ∷ bytes) ++ more)) (sym n)

first_has_lf : (bytes : List ℕ) → position_or_len is_lf bytes < length bytes → stands_in 10 (take (position_or_len is_lf bytes + 1) bytes) ≡ true
first_has_lf [] h = absurd (omega arith)
first_has_lf (b ∷ bytes) h = by_test (is_lf b) refl (first_has_lf bytes) where
  by_test : (t : Bool) → is_lf b ≡ t → (position_or_len is_lf bytes < length bytes → stands_in 10 (take (position_or_len is_lf bytes + 1) bytes) ≡ true) → stands_in 10 (take (position_or_len is_lf (b ∷ bytes) + 1) (b ∷ bytes)) ≡ true
  by_test true e ih = rw e (let f : stands_in 10 (b ∷ []) ≡ true = rw e refl in f)
  by_test false e ih =
      let h' : position_or_len is_lf bytes < length bytes = omega (arith, rw e at h) in
      let n : position_or_len is_lf (b ∷ bytes) + 1 ≡ suc (position_or_len is_lf bytes + 1) = rw e (omega arith) in
      ap (λ n. stands_in 10 (take n (b ∷ bytes))) n ∙ rw e (ih h')

-- bytes that have an LF begin with a line
pub first_begins : (bytes : List ℕ) → position_or_len is_lf bytes < length bytes → BeginsLine bytes (position_or_len is_lf bytes + 1)
first_begins bytes h =
    record {
      within = omega arith;
      some = omega arith;
      ends = first_has_lf bytes h;
      lines = λ more. first_ends bytes more h;
    }

-- the line up to the first LF
pub line_end_found : (bytes : List ℕ) (n at : ℕ) → n ≤ length bytes → stands_in 10 (take n bytes) ≡ false → position is_lf (drop n bytes) ≡ Some at → BeginsLine bytes (n + at + 1)
line_end_found bytes n at within front h =
    let found = position_some is_lf (drop n bytes) at h in
    let place : position_or_len is_lf bytes ≡ n + at = lf_behind bytes n within front ∙ ap (λ k. n + k) found.0 in
    let len : n + at < length bytes = (let l = ap length (take-append-drop n bytes) in grind (arith, common_steps)) in
    let inside : position_or_len is_lf bytes < length bytes = omega arith in
    record {
      within = omega arith;
      some = omega arith;
      ends = ap (λ k. stands_in 10 (take (k + 1) bytes)) (sym place) ∙ first_has_lf bytes inside;
      lines = λ more. first_ends bytes more inside ∙ ap (λ k. take (k + 1) bytes ∷ lines_of (drop (k + 1) bytes ++ more)) place;
    }

-- the same where the bytes behind have a name of their own
pub line_end_at : (bytes behind : List ℕ) (n at : ℕ) → n ≤ length bytes → stands_in 10 (take n bytes) ≡ false → behind ≡ drop n bytes → position is_lf behind ≡ Some at → BeginsLine bytes (n + at + 1)
line_end_at bytes behind n at within front b h = line_end_found bytes n at within front (ap (position is_lf) (sym b) ∙ h)

pub no_line_end_at : (bytes behind : List ℕ) (n : ℕ) → stands_in 10 (take n bytes) ≡ false → behind ≡ drop n bytes → position is_lf behind ≡ None → stands_in 10 bytes ≡ false
no_line_end_at bytes behind n front b h = no_line_end bytes n front (ap (position is_lf) (sym b) ∙ h)

-- STEPS

-- what a line with its LF does is what it does in the start of an input too
whole_line : (whole : Bool) (limits : Limits) (spot : Spot) (line : List ℕ) → stands_in 10 line ≡ true → line_step whole limits spot line ≡ after_line limits spot line
whole_line true limits spot line e = refl
whole_line false limits spot line e = rw e refl

-- what is read of the bytes is what their first line does, and what is read behind it
pub one_line : (whole : Bool) (limits : Limits) (spot : Spot) (bytes more : List ℕ) (n : ℕ) → BeginsLine bytes n
    → reading_from whole limits spot (bytes ++ more) ≡ with_step (after_line limits spot (take n bytes)) spot (λ next. reading_from whole limits next (drop n bytes ++ more))
one_line whole limits spot bytes more n begins =
    ap (reading_lines whole limits spot) (begins.lines more)
    ∙ ap (λ step. with_step step spot (λ next. reading_from whole limits next (drop n bytes ++ more))) (whole_line whole limits spot (take n bytes) begins.ends)

-- NAMED SESSIONS

-- the number of a name is below the count of names with it, which begin with those before
pub name_joins : (names : List (List ℕ)) (name : List ℕ) → (session_number names name < length (with_name names name)) × (length names ≤ length (with_name names name)) × ((more : List (List ℕ)) × (with_name names name ≡ names ++ more))
name_joins names name = by_test (nat_lt (session_number names name) (length names)) refl where
  by_test : (t : Bool) → nat_lt (session_number names name) (length names) ≡ t → (session_number names name < length (with_name names name)) × (length names ≤ length (with_name names name)) × ((more : List (List ℕ)) × (with_name names name ≡ names ++ more))
  by_test true e = rw e (ltb-true _ _ e, omega arith, ([], sym (append-nil names)))
  by_test false e =
      let most = prefix_len-le-length (λ x. not (same_bytes x name)) names in
      let len : length (names ++ (name ∷ [])) ≡ length names + 1 = length-append names (name ∷ []) in
      rw e (omega (arith, most, len), omega (arith, len), (name ∷ [], refl))

-- behind a line
pub record Follows (spot : Spot) (line : List ℕ) (next : Spot) : Type 0 where
  pub size : next.size ≡ spot.size + length line
  pub before : next.before ≡ spot.before
  pub ended : next.ended ≡ spot.ended
  pub is_named : IsNamed spot → IsNamed next

-- a line that names no session, with the same jobs or one more of the session whose block it ends
same_follows : (spot : Spot) (line : List ℕ) (jobs : List Job) (place : Place) → (IsNamed spot → All (λ job. job.session < length spot.names) jobs) → (IsNamed spot → IsNamedPlace (length spot.names) place) → Follows spot line (behind spot line spot.names jobs place)
same_follows spot line jobs place j p =
    record {
      size = refl;
      before = refl;
      ended = refl;
      is_named = λ h. record { grown = h.grown; jobs = j h; open_block = p h };
    }

-- the jobs with one more
job_joins : (number : ℕ) (jobs : List Job) (session line : ℕ) (text : List ℕ) (block : Option (List ℕ)) → session < number → All (λ job. job.session < number) jobs → All (λ job. job.session < number) (with_job jobs session line text block)
job_joins number jobs session line text block le h = All-push (λ (job : Job). job.session < number) jobs _ h le

-- a line that names a session
named_follows : (spot : Spot) (line name : List ℕ) (jobs : List Job) (place : Place)
    → (IsNamed spot → All (λ job. job.session < length (with_name spot.names name)) jobs) → (IsNamed spot → IsNamedPlace (length (with_name spot.names name)) place)
    → Follows spot line (behind spot line (with_name spot.names name) jobs place)
named_follows spot line name jobs place j p =
    let joins = name_joins spot.names name in
    record {
      size = refl;
      before = refl;
      ended = refl;
      is_named = λ h. record {
        grown = (h.grown.0 ++ joins.2.0, joins.2.1 ∙ (ap (λ xs. xs ++ joins.2.0) h.grown.1 ∙ append_assoc spot.before h.grown.0 joins.2.0));
        jobs = j h;
        open_block = p h;
      };
    }

-- the jobs of a phase before a session is named
old_jobs : (spot : Spot) (name : List ℕ) → IsNamed spot → All (λ job. job.session < length (with_name spot.names name)) spot.jobs
old_jobs spot name h =
    let joins = name_joins spot.names name in
    All-weaker (λ (job : Job). job.session < length spot.names) (λ (job : Job). job.session < length (with_name spot.names name)) (λ job le. omega (arith, joins.1, le)) spot.jobs h.jobs

statement_follows : (spot : Spot) (line name text : List ℕ) → Follows spot line (after_statement spot line name text)
statement_follows spot line name text = by_test (has_block text) refl where
  by_test : (t : Bool) → has_block text ≡ t → Follows spot line (after_statement spot line name text)
  by_test true e = rw e (named_follows spot line name spot.jobs _ (old_jobs spot name) (λ h. (name_joins spot.names name).0))
  by_test false e = rw e (named_follows spot line name _ Outside (λ h. job_joins _ spot.jobs _ spot.line text None (name_joins spot.names name).0 (old_jobs spot name h)) (λ h. tt))

-- a step that goes on to what follows
step_follows : (spot : Spot) (line : List ℕ) (found next : Spot) → Goes found ≡ Goes next → Follows spot line found → Follows spot line next
step_follows spot line found next e h = let same : found ≡ next = cc in subst (Follows spot line) same h

named_goes : (limits : Limits) (spot : Spot) (line : List ℕ) (said : Option (List ℕ × List ℕ)) (next : Spot) → named limits spot line said ≡ Goes next → Follows spot line next
named_goes limits spot line None next e = absurd (cc)
named_goes limits spot line (Some s) next e = by_test (nat_le (most_sessions limits) (session_number spot.names s.0)) refl where
  by_test : (t : Bool) → nat_le (most_sessions limits) (session_number spot.names s.0) ≡ t → Follows spot line next
  by_test true t = absurd (let f = rw t at e in cc)
  by_test false t = step_follows spot line _ next (rw t at e) (statement_follows spot line s.0 s.1)

outside_goes : (limits : Limits) (spot : Spot) (line : List ℕ) (next : Spot) → outside limits spot line ≡ Goes next → Follows spot line next
outside_goes limits spot line next e = by_text (is_utf8 (text_of line)) (is_passed_over (text_of line)) (same_bytes (text_of line) (codes "GO")) refl refl refl where
  by_text : (t u v : Bool) → is_utf8 (text_of line) ≡ t → is_passed_over (text_of line) ≡ u → same_bytes (text_of line) (codes "GO") ≡ v → Follows spot line next
  by_text false u v p q r = absurd (let f = rw p at e in cc)
  by_text true true v p q r = step_follows spot line _ next (rw (p, q) at e) (same_follows spot line spot.jobs Outside (λ h. h.jobs) (λ h. tt))
  by_text true false true p q r = absurd (let f = rw (p, q, r) at e in cc)
  by_text true false false p q r = named_goes limits spot line (statement_of (text_of line)) next (rw (p, q, r) at e)

inside_goes : (spot : Spot) (line : List ℕ) (session begun : ℕ) (text block : List ℕ) (next : Spot) → spot.place ≡ Inside session begun text block → inside spot line session begun text block ≡ Goes next → Follows spot line next
inside_goes spot line session begun text block next at e = by_test (ends_block line) refl where
  named_block : IsNamed spot → session < length spot.names
  named_block h = let P : Place → Type 0 = λ place. IsNamedPlace (length spot.names) place in subst P at h.open_block

  by_test : (t : Bool) → ends_block line ≡ t → Follows spot line next
  by_test true t = step_follows spot line _ next (rw t at e) (same_follows spot line _ Outside (λ h. job_joins _ spot.jobs session begun text (Some block) (named_block h) h.jobs) (λ h. tt))
  by_test false t = step_follows spot line _ next (rw t at e) (same_follows spot line spot.jobs (Inside session begun text (block ++ line)) (λ h. h.jobs) (λ h. named_block h))

place_goes : (limits : Limits) (spot : Spot) (line : List ℕ) (place : Place) (next : Spot) → spot.place ≡ place → at_place limits spot line place ≡ Goes next → Follows spot line next
place_goes limits spot line Outside next at e = outside_goes limits spot line next e
place_goes limits spot line (Inside session begun text block) next at e = inside_goes spot line session begun text block next at e

early_goes : (early : Option ScriptFault) (step : Step) (next : Spot) → unless_early early step ≡ Goes next → step ≡ Goes next
early_goes None step next e = e
early_goes (Some f) step next e = absurd (cc)

-- a line that does not end the phase and has no fault
pub line_goes : (limits : Limits) (spot : Spot) (line : List ℕ) (next : Spot) → after_line limits spot line ≡ Goes next → Follows spot line next
line_goes limits spot line next e = by_test (nat_lt limits.phase (spot.size + length line)) refl (early_goes (early_fault limits spot line) (in_phase limits spot line) next e) where
  by_test : (t : Bool) → nat_lt limits.phase (spot.size + length line) ≡ t → in_phase limits spot line ≡ Goes next → Follows spot line next
  by_test true t f = absurd (let g = rw t at f in cc)
  by_test false t f = place_goes limits spot line spot.place next refl (rw t at f)

-- LINE BY LINE

-- what is read of all bytes is what is read of the rest at a spot
abbrev pub ReadsRest : Limits → Spot → List ℕ → Spot → List ℕ → Type 0
ReadsRest limits old bytes spot rest = (whole : Bool) (more : List ℕ) → reading_from whole limits old (bytes ++ more) ≡ reading_from whole limits spot (rest ++ more)

-- a line of the rest, by what it does
pub rest_steps : (limits : Limits) (old spot : Spot) (bytes rest line after : List ℕ) (n : ℕ) (step : Step) → ReadsRest limits old bytes spot rest → BeginsLine rest n
    → line ≡ take n rest → after ≡ drop n rest → after_line limits spot line ≡ step
    → (whole : Bool) (more : List ℕ) → reading_from whole limits old (bytes ++ more) ≡ with_step step spot (λ next. reading_from whole limits next (after ++ more))
rest_steps limits old spot bytes rest line after n step so_far begins l a s whole more =
    let taken : after_line limits spot (take n rest) ≡ step = ap (after_line limits spot) (sym l) ∙ s in
    so_far whole more
    ∙ (one_line whole limits spot rest more n begins
    ∙ (ap (λ step. with_step step spot (λ next. reading_from whole limits next (drop n rest ++ more))) taken
    ∙ ap (λ xs. with_step step spot (λ next. reading_from whole limits next (xs ++ more))) (sym a)))

-- the rest of a rest
pub rest_of_rest : (bytes rest after : List ℕ) (used n : ℕ) → rest ≡ drop used bytes → after ≡ drop n rest → after ≡ drop (used + n) bytes
rest_of_rest bytes rest after used n r a = a ∙ (ap (drop n) r ∙ drop-drop n used bytes)

-- a rest of so many bytes is within
pub rest_within : (bytes rest : List ℕ) (used n : ℕ) → used ≤ length bytes → rest ≡ drop used bytes → n ≤ length rest → used + n ≤ length bytes
rest_within bytes rest used n u r h = let len : length rest ≡ length bytes - used = ap length r ∙ length-drop used bytes in omega arith

pub line_length : (rest line : List ℕ) (n : ℕ) → n ≤ length rest → line ≡ take n rest → length line ≡ n
line_length rest line n h l = ap length l ∙ length-take-le n rest h

-- a line after which the phase goes on
pub went_on : (step : Step) (ends : Bool) (old new : Spot) → StepIs step (Ok ends) old new → ends ≡ false → step ≡ Goes new
went_on step true old new h e = absurd (cc)
went_on step false old new h e = h
