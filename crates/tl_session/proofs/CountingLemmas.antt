-- Each entry past the opening is told of once.
use Rattle.std.proofs.Common.{◌≡◌, ◌≢◌, ◌⊎◌, inl, inr, ℕ, zero, suc, ◌+◌, ◌<◌, ◌≤◌, ◌==◌, true, false, cond, List, [], ◌∷◌, Option, Some, None, refl, sym, ap, ◌∙◌, arith}
use Rattle.std.proofs.lemmas.Bool.{cases_lt, cases_eq}
use Rattle.std.proofs.lemmas.Bool.Decides.{nat_tests}
use Rattle.tl_jobs.specs.declared.replies.ReplyBody.{ReplyBody}
use Rattle.tl_jobs.specs.declared.replies.ReplyBody.TheVariants as body
use Rattle.tl_jobs.specs.Turns.{Turn, of_session, Each}
use Rattle.tl_session.specs.Promises.{tally, whole_tally, body_weight, weight}
use Rattle.tl_session.proofs.SessionLemmas.{each_of_sessions, tally_of_one}

-- the number of the entry that a reply stands for, counted among commits and breaks
abbrev pub key_of : ReplyBody → ℕ → Option ℕ
key_of (body.Rows r) v = None
key_of (body.Refused f) v = None
key_of body.Done v = Some v
key_of body.DeviceFault v = Some (v + 1)
key_of body.BrokenJournal v = None

abbrev pub hit_of : ℕ → Option ℕ → ℕ
hit_of k None = 0
hit_of k (Some x) = cond (x == k) 1 0

abbrev pub hit : ℕ → Turn → ℕ
hit k t = hit_of k (key_of t.reply.body t.reply.version)

abbrev pub some_of : Option ℕ → ℕ
some_of None = 0
some_of (Some x) = 1

-- a reply's entry is the last seen, and new, and by the session
abbrev pub StepOf : (ℕ → ℕ) → ℕ → Option ℕ → ℕ → ℕ → Type 0
StepOf owner s None a b = a ≤ b
StepOf owner s (Some k) a b = (a < b) × (k ≡ b) × (owner b ≡ s)

abbrev pub Step : (ℕ → ℕ) → ℕ → Turn → ℕ → ℕ → Type 0
Step owner s t a b = StepOf owner s (key_of t.reply.body t.reply.version) a b

abbrev pub Steps : (ℕ → ℕ) → ℕ → ℕ → List Turn → ℕ → Type 0
Steps owner s a [] b = a ≤ b
Steps owner s a (t ∷ ts) b = (mid : ℕ) × Step owner s t a mid × Steps owner s mid ts b

abbrev pub PhaseSteps : (ℕ → ℕ) → ℕ → List Turn → ℕ → Type 0
PhaseSteps owner a phase b = (s : ℕ) → Steps owner s a (of_session s phase) b

abbrev pub Walk : (ℕ → ℕ) → ℕ → List (List Turn) → ℕ → Type 0
Walk owner a [] b = a ≤ b
Walk owner a (phase ∷ phases) b = (mid : ℕ) × (a ≤ mid) × PhaseSteps owner a phase mid × Walk owner mid phases b

weight_is : (b : ReplyBody) (v : ℕ) → body_weight b ≡ some_of (key_of b v)
weight_is (body.Rows r) v = refl
weight_is (body.Refused f) v = refl
weight_is body.Done v = refl
weight_is body.DeviceFault v = refl
weight_is body.BrokenJournal v = refl

pub miss : (k x : ℕ) → x ≢ k → hit_of k (Some x) ≡ 0
miss k x differ = let e : (x == k) ≡ false = grind (arith, nat_tests) in rw e refl

at_hit : (k x : ℕ) → x ≡ k → hit_of k (Some x) ≡ 1
at_hit k x is = let e : (x == k) ≡ true = grind (arith, nat_tests) in rw e refl

step_le : (owner : ℕ → ℕ) (s : ℕ) (o : Option ℕ) (a b : ℕ) → StepOf owner s o a b → a ≤ b
step_le owner s None a b p = p
step_le owner s (Some x) a b p = let q = p.0 in omega arith

steps_le : (owner : ℕ → ℕ) (s a : ℕ) (ts : List Turn) (b : ℕ) → Steps owner s a ts b → a ≤ b
steps_le owner s a [] b p = p
steps_le owner s a (t ∷ ts) b p = let q = step_le owner s (key_of t.reply.body t.reply.version) a p.0 p.1 in let r = steps_le owner s p.0 ts b p.2 in omega (arith, q, r)

-- no entry that was there before, or that is not yet there
step_miss : (owner : ℕ → ℕ) (s : ℕ) (o : Option ℕ) (a b k : ℕ) → StepOf owner s o a b → (k ≤ a) ⊎ (b < k) → hit_of k o ≡ 0
step_miss owner s None a b k p out = refl
step_miss owner s (Some x) a b k p (inl out) = let q = p.0 in let r = p.1 in miss k x (omega (arith, q, r))
step_miss owner s (Some x) a b k p (inr out) = let q = p.0 in let r = p.1 in miss k x (omega (arith, q, r))

low : (owner : ℕ → ℕ) (s a : ℕ) (ts : List Turn) (b k : ℕ) → Steps owner s a ts b → k ≤ a → tally (hit k) ts ≡ 0
low owner s a [] b k p le = refl
low owner s a (t ∷ ts) b k p le =
    let q = step_le owner s (key_of t.reply.body t.reply.version) a p.0 p.1 in
    omega (arith, step_miss owner s (key_of t.reply.body t.reply.version) a p.0 k p.1 (inl le), low owner s p.0 ts b k p.2 (omega (arith, q, le)))

high : (owner : ℕ → ℕ) (s a : ℕ) (ts : List Turn) (b k : ℕ) → Steps owner s a ts b → b < k → tally (hit k) ts ≡ 0
high owner s a [] b k p lt = refl
high owner s a (t ∷ ts) b k p lt =
    let r = steps_le owner s p.0 ts b p.2 in
    omega (arith, step_miss owner s (key_of t.reply.body t.reply.version) a p.0 k p.1 (inr (omega (arith, r, lt))), high owner s p.0 ts b k p.2 lt)

-- an entry by another session, or one told of before
step_own : (owner : ℕ → ℕ) (s : ℕ) (o : Option ℕ) (a b k : ℕ) → StepOf owner s o a b → (hit_of k o ≡ 0) ⊎ ((k ≡ b) × (owner k ≡ s) × (hit_of k o ≡ 1))
step_own owner s None a b k p = inl refl
step_own owner s (Some x) a b k p = by_case (cases_eq x k) where
  by_case : (x ≡ k) ⊎ (x ≢ k) → (hit_of k (Some x) ≡ 0) ⊎ ((k ≡ b) × (owner k ≡ s) × (hit_of k (Some x) ≡ 1))
  by_case (inl is) = inr (sym is ∙ p.1, ap owner (sym is ∙ p.1) ∙ p.2, at_hit k x is)
  by_case (inr is) = inl (miss k x is)

-- the session tells of the entry once, and it is the session's own, or not at all
own : (owner : ℕ → ℕ) (s a : ℕ) (ts : List Turn) (b k : ℕ) → Steps owner s a ts b → (tally (hit k) ts ≡ 0) ⊎ ((owner k ≡ s) × (tally (hit k) ts ≡ 1))
own owner s a [] b k p = inl refl
own owner s a (t ∷ ts) b k p = by_case (step_own owner s (key_of t.reply.body t.reply.version) a p.0 k p.1) (own owner s p.0 ts b k p.2) where
  by_case : (hit k t ≡ 0) ⊎ ((k ≡ p.0) × (owner k ≡ s) × (hit k t ≡ 1)) → (tally (hit k) ts ≡ 0) ⊎ ((owner k ≡ s) × (tally (hit k) ts ≡ 1)) → (tally (hit k) (t ∷ ts) ≡ 0) ⊎ ((owner k ≡ s) × (tally (hit k) (t ∷ ts) ≡ 1))
  by_case (inl z) (inl y) = inl (omega (arith, z, y))
  by_case (inl z) (inr y) = let w = y.1 in inr (y.0, omega (arith, z, w))
  by_case (inr z) r = let e = z.0 in let w = z.2 in inr (z.1, omega (arith, w, low owner s p.0 ts b k p.2 (omega (arith, e))))

-- sessions other than the entry's own do not tell of it, and that one once at most
other : (owner : ℕ → ℕ) (s a : ℕ) (ts : List Turn) (b k : ℕ) → Steps owner s a ts b → s ≢ owner k → tally (hit k) ts ≡ 0
other owner s a ts b k p differ = by_case (own owner s a ts b k p) where
  by_case : (tally (hit k) ts ≡ 0) ⊎ ((owner k ≡ s) × (tally (hit k) ts ≡ 1)) → tally (hit k) ts ≡ 0
  by_case (inl z) = z
  by_case (inr z) = absurd (differ (sym z.0))

at_most : (owner : ℕ → ℕ) (s a : ℕ) (ts : List Turn) (b k : ℕ) → Steps owner s a ts b → tally (hit k) ts ≤ 1
at_most owner s a ts b k p = by_case (own owner s a ts b k p) where
  by_case : (tally (hit k) ts ≡ 0) ⊎ ((owner k ≡ s) × (tally (hit k) ts ≡ 1)) → tally (hit k) ts ≤ 1
  by_case (inl z) = omega (arith, z)
  by_case (inr z) = let w = z.1 in omega (arith, w)

own_alone : (owner : ℕ → ℕ) (a : ℕ) (phase : List Turn) (b k : ℕ) → PhaseSteps owner a phase b → tally (hit k) phase ≡ tally (hit k) (of_session (owner k) phase)
own_alone owner a phase b k p = tally_of_one (hit k) (owner k) phase (λ s differ. other owner s a (of_session s phase) b k (p s) differ)

phase_low : (owner : ℕ → ℕ) (a : ℕ) (phase : List Turn) (b k : ℕ) → PhaseSteps owner a phase b → k ≤ a → tally (hit k) phase ≡ 0
phase_low owner a phase b k p le = own_alone owner a phase b k p ∙ low owner (owner k) a (of_session (owner k) phase) b k (p (owner k)) le

phase_high : (owner : ℕ → ℕ) (a : ℕ) (phase : List Turn) (b k : ℕ) → PhaseSteps owner a phase b → b < k → tally (hit k) phase ≡ 0
phase_high owner a phase b k p lt = own_alone owner a phase b k p ∙ high owner (owner k) a (of_session (owner k) phase) b k (p (owner k)) lt

phase_one : (owner : ℕ → ℕ) (a : ℕ) (phase : List Turn) (b k : ℕ) → PhaseSteps owner a phase b → tally (hit k) phase ≤ 1
phase_one owner a phase b k p =
    let same = own_alone owner a phase b k p in
    let most = at_most owner (owner k) a (of_session (owner k) phase) b k (p (owner k)) in
    omega (arith, same, most)

whole_low : (owner : ℕ → ℕ) (a : ℕ) (phases : List (List Turn)) (b k : ℕ) → Walk owner a phases b → k ≤ a → whole_tally (hit k) phases ≡ 0
whole_low owner a [] b k p le = refl
whole_low owner a (phase ∷ phases) b k p le = let q = p.1 in omega (arith, phase_low owner a phase p.0 k p.2 le, whole_low owner p.0 phases b k p.3 (omega (arith, q, le)))

whole_one : (owner : ℕ → ℕ) (a : ℕ) (phases : List (List Turn)) (b k : ℕ) → Walk owner a phases b → whole_tally (hit k) phases ≤ 1
whole_one owner a [] b k p = omega arith
whole_one owner a (phase ∷ phases) b k p = by_case (cases_lt p.0 k) (whole_one owner p.0 phases b k p.3) where
  by_case : (p.0 < k) ⊎ (k ≤ p.0) → whole_tally (hit k) phases ≤ 1 → tally (hit k) phase + whole_tally (hit k) phases ≤ 1
  by_case (inl lt) ih = omega (arith, phase_high owner a phase p.0 k p.2 lt, ih)
  by_case (inr le) ih = omega (arith, phase_one owner a phase p.0 k p.2, whole_low owner p.0 phases b k p.3 le)

walk_le : (owner : ℕ → ℕ) (a : ℕ) (phases : List (List Turn)) (b : ℕ) → Walk owner a phases b → a ≤ b
walk_le owner a [] b p = p
walk_le owner a (phase ∷ phases) b p = let q = p.1 in let r = walk_le owner p.0 phases b p.3 in omega (arith, q, r)

-- the sum over d numbers past a
abbrev pub span : (ℕ → ℕ) → ℕ → ℕ → ℕ
span f a zero = 0
span f a (suc d) = f (a + 1) + span f (a + 1) d

span_sum : (f g : ℕ → ℕ) (a d : ℕ) → span (λ k. f k + g k) a d ≡ span f a d + span g a d
span_sum f g a zero = omega arith
span_sum f g a (suc d) = omega (arith, span_sum f g (a + 1) d)

span_hit : (x a d : ℕ) → a < x → x ≤ a + d → 1 ≤ span (λ k. hit_of k (Some x)) a d
span_hit x a zero lo hi = absurd (omega arith)
span_hit x a (suc d) lo hi = by_case (cases_eq x (a + 1)) (λ more. span_hit x (a + 1) d more (omega (arith, hi))) where
  by_case : (x ≡ a + 1) ⊎ (x ≢ a + 1) → (a + 1 < x → 1 ≤ span (λ k. hit_of k (Some x)) (a + 1) d) → 1 ≤ span (λ k. hit_of k (Some x)) a (suc d)
  by_case (inl is) ih = omega (arith, at_hit (a + 1) x is)
  by_case (inr is) ih = omega (arith, ih (omega (arith, is, lo)))

step_span : (owner : ℕ → ℕ) (s : ℕ) (o : Option ℕ) (x y a d : ℕ) → StepOf owner s o x y → a ≤ x → y ≤ a + d → some_of o ≤ span (λ k. hit_of k o) a d
step_span owner s None x y a d p lo hi = omega arith
step_span owner s (Some z) x y a d p lo hi = let q = p.0 in let e = p.1 in span_hit z a d (omega (arith, q, e, lo)) (omega (arith, e, hi))

-- the entry that a reply stands for is among the d numbers past a
abbrev InSpan : ℕ → ℕ → Turn → Type 0
InSpan a d t = weight t ≤ span (λ k. hit k t) a d

steps_span : (owner : ℕ → ℕ) (s x : ℕ) (ts : List Turn) (y a d : ℕ) → Steps owner s x ts y → a ≤ x → y ≤ a + d → Each (InSpan a d) ts
steps_span owner s x [] y a d p lo hi = tt
steps_span owner s x (t ∷ ts) y a d p lo hi =
    let up = step_le owner s (key_of t.reply.body t.reply.version) x p.0 p.1 in
    let on = steps_le owner s p.0 ts y p.2 in
    let here = step_span owner s (key_of t.reply.body t.reply.version) x p.0 a d p.1 lo (omega (arith, on, hi)) in
    (omega (arith, weight_is t.reply.body t.reply.version, here), steps_span owner s p.0 ts y a d p.2 (omega (arith, up, lo)) hi)

tally_span : (a d : ℕ) (ts : List Turn) → Each (InSpan a d) ts → tally weight ts ≤ span (λ k. tally (hit k) ts) a d
tally_span a d [] e = omega arith
tally_span a d (t ∷ ts) e =
    let here = e.0 in
    omega (arith, here, tally_span a d ts e.1, span_sum (λ k. hit k t) (λ k. tally (hit k) ts) a d)

phase_span : (owner : ℕ → ℕ) (x : ℕ) (phase : List Turn) (y a d : ℕ) → PhaseSteps owner x phase y → a ≤ x → y ≤ a + d → tally weight phase ≤ span (λ k. tally (hit k) phase) a d
phase_span owner x phase y a d p lo hi =
    tally_span a d phase (each_of_sessions (InSpan a d) phase (λ s. steps_span owner s x (of_session s phase) y a d (p s) lo hi))

whole_span : (owner : ℕ → ℕ) (x : ℕ) (phases : List (List Turn)) (y a d : ℕ) → Walk owner x phases y → a ≤ x → y ≤ a + d → whole_tally weight phases ≤ span (λ k. whole_tally (hit k) phases) a d
whole_span owner x [] y a d p lo hi = omega arith
whole_span owner x (phase ∷ phases) y a d p lo hi =
    let up = p.1 in
    let on = walk_le owner p.0 phases y p.3 in
    let here = phase_span owner x phase p.0 a d p.2 lo (omega (arith, on, hi)) in
    let rest = whole_span owner p.0 phases y a d p.3 (omega (arith, up, lo)) hi in
    omega (arith, here, rest, span_sum (λ k. tally (hit k) phase) (λ k. whole_tally (hit k) phases) a d)

span_most : (f : ℕ → ℕ) (a d : ℕ) → ((k : ℕ) → f k ≤ 1) → span f a d ≤ d
span_most f a zero most = omega arith
span_most f a (suc d) most = omega (arith, most (a + 1), span_most f (a + 1) d most)

span_each : (f : ℕ → ℕ) (a d : ℕ) → ((k : ℕ) → f k ≤ 1) → d ≤ span f a d → (k : ℕ) → a < k → k ≤ a + d → f k ≡ 1
span_each f a zero most full k lo hi = absurd (omega arith)
span_each f a (suc d) most full k lo hi = by_case (cases_eq k (a + 1)) (λ more. span_each f (a + 1) d most (let m = most (a + 1) in omega (arith, m, full)) k more (omega (arith, hi))) where
  by_case : (k ≡ a + 1) ⊎ (k ≢ a + 1) → (a + 1 < k → f k ≡ 1) → f k ≡ 1
  by_case (inl is) ih = ap f is ∙ (let m = most (a + 1) in let r = span_most f (a + 1) d most in omega (arith, m, r, full))
  by_case (inr is) ih = ih (omega (arith, is, lo))

-- as many replies as entries: each entry has its one reply
pub each_once : (owner : ℕ → ℕ) (a : ℕ) (phases : List (List Turn)) (b : ℕ) → Walk owner a phases b → a + whole_tally weight phases ≡ b → (k : ℕ) → a < k → k ≤ b → whole_tally (hit k) phases ≡ 1
each_once owner a phases b p same k lo hi =
    span_each (λ j. whole_tally (hit j) phases) a (whole_tally weight phases) (λ j. whole_one owner a phases b j p) (whole_span owner a phases b a (whole_tally weight phases) p (omega arith) (omega (arith, same))) k lo (omega (arith, same, hi))
