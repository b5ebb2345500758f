-- A phase: the turns of its sessions, put together in the order of its jobs.
use Rattle.std.proofs.Common.{◌≡◌, ◌≢◌, ◌⊎◌, inl, inr, ℕ, zero, suc, ◌+◌, ◌<◌, ◌≤◌, ◌==◌, Bool, true, false, true≢false, cond, List, [], ◌∷◌, ◌++◌, refl, sym, ap, ◌∙◌, arith}
use Rattle.std.proofs.lemmas.Bool.{cases_lt}
use Rattle.std.proofs.lemmas.Bool.Decides.{nat_tests}
use Rattle.tl_jobs.specs.Jobs.{Job}
use Rattle.tl_session.specs.Phases.{own_jobs}
use Rattle.tl_jobs.specs.Turns.{Turn, of_session}
use Rattle.tl_session.specs.Promises.{tally}
use Rattle.tl_jobs.specs.Written.{jobs_of}
use Rattle.tl_session.proofs.SessionLemmas.{is_itself, own_same, own_other, turns_same, turns_other}

-- JOBS OF A SESSION

abbrev rest_of : {X : Type 0} → List X → List X
rest_of [] = []
rest_of (x ∷ xs) = xs

are_same : (s o : ℕ) → (s == o) ≡ true → s ≡ o
are_same s o e = grind (arith, nat_tests)

-- TURNS PUT TOGETHER

-- each session answered some of the first of its jobs: these turns, and not those later jobs
abbrev pub Fronts : List Job → (ℕ → List Turn) → (ℕ → List Job) → Type 0
Fronts jobs by_session later = (s : ℕ) → own_jobs s jobs ≡ jobs_of (by_session s) ++ later s

-- all turns in one list, in the order of the jobs, which they answer where no job is left
abbrev pub Together : List Job → (ℕ → List Turn) → (ℕ → List Job) → Type 0
Together jobs by_session later =
    (turns : List Turn) × ((s : ℕ) → of_session s turns ≡ by_session s)
    × (((s : ℕ) → later s ≡ []) → jobs_of turns ≡ jobs)

-- where the session's place is another value
abbrev chosen : {X : Type 0} → (ℕ → X) → ℕ → X → ℕ → X
chosen f o x s = cond (o == s) x (f s)

no_turns : (ts : List Turn) (later : List Job) → [] ≡ jobs_of ts ++ later → ts ≡ []
no_turns [] later e = refl
no_turns (t ∷ ts) later e = absurd (cc)

skip_fronts : (j : Job) (js : List Job) (by_session : ℕ → List Turn) (later : ℕ → List Job) → by_session j.session ≡ [] → Fronts (j ∷ js) by_session later → Fronts js by_session (chosen later j.session (own_jobs j.session js))
skip_fronts j js by_session later none f s = by_test (j.session == s) refl where
  by_test : (b : Bool) → (j.session == s) ≡ b → own_jobs s js ≡ jobs_of (by_session s) ++ cond b (own_jobs j.session js) (later s)
  by_test true e =
      let same = are_same j.session s e in
      ap (λ o. own_jobs o js) (sym same) ∙ ap (λ ts. jobs_of ts ++ own_jobs j.session js) (sym (ap by_session (sym same) ∙ none))
  by_test false e = sym (own_other s j js e) ∙ f s

skipped : (j : Job) (js : List Job) (by_session : ℕ → List Turn) (later : ℕ → List Job) → by_session j.session ≡ [] → Fronts (j ∷ js) by_session later → Together js by_session (chosen later j.session (own_jobs j.session js)) → Together (j ∷ js) by_session later
skipped j js by_session later none f (turns, each, whole) =
    (turns, each, λ all. let e : j ∷ own_jobs j.session js ≡ [] = sym (own_same j.session j js (is_itself j.session)) ∙ f j.session ∙ ap (λ ts. jobs_of ts ++ later j.session) none ∙ all j.session in absurd (cc))

taken_fronts : (j : Job) (js : List Job) (t : Turn) (ts : List Turn) (by_session : ℕ → List Turn) (later : ℕ → List Job) → by_session j.session ≡ t ∷ ts → Fronts (j ∷ js) by_session later → Fronts js (chosen by_session j.session ts) later
taken_fronts j js t ts by_session later next f s = by_test (j.session == s) refl where
  by_test : (b : Bool) → (j.session == s) ≡ b → own_jobs s js ≡ jobs_of (cond b ts (by_session s)) ++ later s
  by_test true e =
      let same = are_same j.session s e in
      ap rest_of (sym (own_same s j js e) ∙ f s ∙ ap (λ l. jobs_of l ++ later s) (ap by_session (sym same) ∙ next))
  by_test false e = sym (own_other s j js e) ∙ f s

job_taken : (j : Job) (js : List Job) (t : Turn) (ts : List Turn) (by_session : ℕ → List Turn) (later : ℕ → List Job) → by_session j.session ≡ t ∷ ts → Fronts (j ∷ js) by_session later → t.job ≡ j
job_taken j js t ts by_session later next f =
    let e : j ∷ own_jobs j.session js ≡ t.job ∷ (jobs_of ts ++ later j.session) = sym (own_same j.session j js (is_itself j.session)) ∙ f j.session ∙ ap (λ l. jobs_of l ++ later j.session) next in
    sym (ap (first_or j) e) where
      first_or : Job → List Job → Job
      first_or d [] = d
      first_or d (x ∷ xs) = x

joined : (j : Job) (js : List Job) (t : Turn) (ts : List Turn) (by_session : ℕ → List Turn) (later : ℕ → List Job) → by_session j.session ≡ t ∷ ts → t.job ≡ j → Together js (chosen by_session j.session ts) later → Together (j ∷ js) by_session later
joined j js t ts by_session later next job (turns, each, whole) =
    (t ∷ turns, λ s. by_test s (j.session == s) refl (each s), λ all. ap (λ x. x ∷ jobs_of turns) job ∙ ap (λ l. j ∷ l) (whole all)) where
      by_test : (s : ℕ) (b : Bool) → (j.session == s) ≡ b → of_session s turns ≡ cond b ts (by_session s) → of_session s (t ∷ turns) ≡ by_session s
      by_test s true e rest =
          turns_same s t turns (ap (λ x. x.session == s) job ∙ e) ∙ ap (λ l. t ∷ l) rest ∙ sym (ap by_session (sym (are_same j.session s e)) ∙ next)
      by_test s false e rest = turns_other s t turns (ap (λ x. x.session == s) job ∙ e) ∙ rest

-- the turns of all sessions stand in the order of the jobs
pub put_together : (jobs : List Job) (by_session : ℕ → List Turn) (later : ℕ → List Job) → Fronts jobs by_session later → Together jobs by_session later
put_together [] by_session later f = ([], λ s. sym (no_turns (by_session s) (later s) (f s)), λ all. refl)
put_together (j ∷ js) by_session later f =
    by_case (by_session j.session) refl (λ t l g. put_together js t l g) where
      by_case : (l : List Turn) → by_session j.session ≡ l → ((t : ℕ → List Turn) (l : ℕ → List Job) → Fronts js t l → Together js t l) → Together (j ∷ js) by_session later
      by_case [] e again = skipped j js by_session later e f (again by_session (chosen later j.session (own_jobs j.session js)) (skip_fronts j js by_session later e f))
      by_case (t ∷ ts) e again = joined j js t ts by_session later e (job_taken j js t ts by_session later e f) (again (chosen by_session j.session ts) later (taken_fronts j js t ts by_session later e f))

-- WHAT ALL SESSIONS COUNT

-- the sum of so many sessions' turns, from a number on
abbrev pub from_on : (Turn → ℕ) → ℕ → ℕ → List Turn → ℕ
from_on f k zero turns = 0
from_on f k (suc n) turns = tally f (of_session k turns) + from_on f (k + 1) n turns

nothing_from : (f : Turn → ℕ) (k n : ℕ) → from_on f k n [] ≡ 0
nothing_from f k zero = refl
nothing_from f k (suc n) = omega (arith, nothing_from f (k + 1) n)

other_from : (f : Turn → ℕ) (k n : ℕ) (t : Turn) (ts : List Turn) → t.job.session < k → from_on f k n (t ∷ ts) ≡ from_on f k n ts
other_from f k zero t ts below = refl
other_from f k (suc n) t ts below =
    let e = ap (tally f) (turns_other k t ts (grind (arith, nat_tests))) in
    let rest = other_from f (k + 1) n t ts (omega (arith, below)) in
    omega (arith, e, rest)

own_from : (f : Turn → ℕ) (k n : ℕ) (t : Turn) (ts : List Turn) → k ≤ t.job.session → t.job.session < k + n → from_on f k n (t ∷ ts) ≡ f t + from_on f k n ts
own_from f k zero t ts low high = absurd (omega (arith, low, high))
own_from f k (suc n) t ts low high = by_test (t.job.session == k) refl (λ l. own_from f (k + 1) n t ts l (omega (arith, high))) where
  by_test : (b : Bool) → (t.job.session == k) ≡ b → (k + 1 ≤ t.job.session → from_on f (k + 1) n (t ∷ ts) ≡ f t + from_on f (k + 1) n ts) → from_on f k (suc n) (t ∷ ts) ≡ f t + from_on f k (suc n) ts
  by_test true e again =
      let here = ap (tally f) (turns_same k t ts e) in
      let same = are_same t.job.session k e in
      let rest = other_from f (k + 1) n t ts (omega (arith, same)) in
      omega (arith, here, rest)
  by_test false e again =
      let here = ap (tally f) (turns_other k t ts e) in
      let apart : t.job.session ≢ k = λ is. true≢false (sym (is_itself k) ∙ ap (λ x. x == k) (sym is) ∙ e) in
      let rest = again (by_case (cases_lt k t.job.session)) in
      omega (arith, here, rest) where
        by_case : (k < t.job.session) ⊎ (t.job.session ≤ k) → k + 1 ≤ t.job.session
        by_case (inl less) = omega (arith, less)
        by_case (inr at) = absurd (let is : t.job.session ≡ k = omega (arith, low, at) in true≢false (sym (is_itself k) ∙ ap (λ x. x == k) (sym is) ∙ e))

-- the turns are of sessions below a number
abbrev pub AreBelow : ℕ → List Turn → Type 0
AreBelow n [] = Unit {0}
AreBelow n (t ∷ ts) = (t.job.session < n) × AreBelow n ts

-- the sum of all turns is that of the sessions, one by one
pub tally_from : (f : Turn → ℕ) (n : ℕ) (ts : List Turn) → AreBelow n ts → tally f ts ≡ from_on f 0 n ts
tally_from f n [] below = sym (nothing_from f 0 n)
tally_from f n (t ∷ ts) below =
    let rest = tally_from f n ts below.1 in
    omega (arith, rest, own_from f 0 n t ts (omega arith) (omega (arith, below.0)))

-- no session has a turn above
none_above : (n : ℕ) (t : Turn) (ts : List Turn) → ((s : ℕ) → n ≤ s → of_session s (t ∷ ts) ≡ []) → t.job.session < n
none_above n t ts none = by_case (cases_lt t.job.session n) where
  by_case : (t.job.session < n) ⊎ (n ≤ t.job.session) → t.job.session < n
  by_case (inl less) = less
  by_case (inr more) = let e : t ∷ of_session t.job.session ts ≡ [] = sym (turns_same t.job.session t ts (is_itself t.job.session)) ∙ none t.job.session more in absurd (cc)

less_above : (s : ℕ) (t : Turn) (ts : List Turn) → of_session s (t ∷ ts) ≡ [] → of_session s ts ≡ []
less_above s t ts none = by_test (t.job.session == s) refl where
  by_test : (b : Bool) → (t.job.session == s) ≡ b → of_session s ts ≡ []
  by_test true e = let h : t ∷ of_session s ts ≡ [] = sym (turns_same s t ts e) ∙ none in absurd (cc)
  by_test false e = sym (turns_other s t ts e) ∙ none

pub are_below : (n : ℕ) (ts : List Turn) → ((s : ℕ) → n ≤ s → of_session s ts ≡ []) → AreBelow n ts
are_below n [] none = tt
are_below n (t ∷ ts) none = (none_above n t ts none, are_below n ts (λ s more. less_above s t ts (none s more)))
