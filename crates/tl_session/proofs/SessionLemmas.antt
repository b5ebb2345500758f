-- A phase, and the jobs and the turns of each of its sessions.
use Rattle.std.proofs.Common.{◌≡◌, ◌≢◌, ℕ, ◌+◌, ◌==◌, Bool, true, false, cond, List, [], ◌∷◌, refl, sym, ap, ◌∙◌, subst, arith}
use Rattle.std.proofs.lemmas.Bool.Decides.{nat_tests}
use Rattle.tl_jobs.specs.Jobs.{Job}
use Rattle.tl_session.specs.Phases.{own_jobs}
use Rattle.tl_jobs.specs.Turns.{Turn, of_session, Each}
use Rattle.tl_session.specs.Promises.{tally}

pub is_itself : (s : ℕ) → (s == s) ≡ true
is_itself s = grind (arith, nat_tests)

-- the first job and the first turn are those of a session, or not
pub own_same : (s : ℕ) (j : Job) (js : List Job) → (j.session == s) ≡ true → own_jobs s (j ∷ js) ≡ j ∷ own_jobs s js
own_same s j js e = rw e refl

pub own_other : (s : ℕ) (j : Job) (js : List Job) → (j.session == s) ≡ false → own_jobs s (j ∷ js) ≡ own_jobs s js
own_other s j js e = rw e refl

pub turns_same : (s : ℕ) (t : Turn) (ts : List Turn) → (t.job.session == s) ≡ true → of_session s (t ∷ ts) ≡ t ∷ of_session s ts
turns_same s t ts e = rw e refl

pub turns_other : (s : ℕ) (t : Turn) (ts : List Turn) → (t.job.session == s) ≡ false → of_session s (t ∷ ts) ≡ of_session s ts
turns_other s t ts e = rw e refl

-- a turn stands first among those of its own session
pub own_first : (t : Turn) (ts : List Turn) → of_session t.job.session (t ∷ ts) ≡ t ∷ of_session t.job.session ts
own_first t ts = turns_same t.job.session t ts (is_itself t.job.session)

each_tail : (P : Turn → Type 0) (s : ℕ) (t : Turn) (ts : List Turn) → Each P (of_session s (t ∷ ts)) → Each P (of_session s ts)
each_tail P s t ts = by_test (t.job.session == s) where
  by_test : (b : Bool) → Each P (cond b (t ∷ of_session s ts) (of_session s ts)) → Each P (of_session s ts)
  by_test true e = e.1
  by_test false e = e

-- a fact of each session's turns is one of all turns
pub each_of_sessions : (P : Turn → Type 0) (ts : List Turn) → ((s : ℕ) → Each P (of_session s ts)) → Each P ts
each_of_sessions P [] e = tt
each_of_sessions P (t ∷ ts) e =
    let own = subst (λ l. Each P l) (own_first t ts) (e t.job.session) in
    (own.0, each_of_sessions P ts (λ s. each_tail P s t ts (e s)))

tally_tail : (f : Turn → ℕ) (s : ℕ) (t : Turn) (ts : List Turn) → tally f (of_session s (t ∷ ts)) ≡ 0 → tally f (of_session s ts) ≡ 0
tally_tail f s t ts = by_test (t.job.session == s) where
  by_test : (b : Bool) → tally f (cond b (t ∷ of_session s ts) (of_session s ts)) ≡ 0 → tally f (of_session s ts) ≡ 0
  by_test true e = omega (arith, e)
  by_test false e = e

-- where one session alone counts, its sum is that of all
pub tally_of_one : (f : Turn → ℕ) (o : ℕ) (ts : List Turn) → ((s : ℕ) → s ≢ o → tally f (of_session s ts) ≡ 0) → tally f ts ≡ tally f (of_session o ts)
tally_of_one f o [] none = refl
tally_of_one f o (t ∷ ts) none =
    by_test (t.job.session == o) refl (tally_of_one f o ts (λ s other. tally_tail f s t ts (none s other))) where
      by_test : (b : Bool) → (t.job.session == o) ≡ b → tally f ts ≡ tally f (of_session o ts) → f t + tally f ts ≡ tally f (cond b (t ∷ of_session o ts) (of_session o ts))
      by_test true is ih = omega (arith, ih)
      by_test false is ih =
          let zero_sum = ap (tally f) (sym (own_first t ts)) ∙ none t.job.session (λ e. grind (arith, nat_tests)) in
          omega (arith, ih, zero_sum)

-- the turns of a session are of it
pub of_its_session : (s : ℕ) (ts : List Turn) → Each (λ t. t.job.session ≡ s) (of_session s ts)
of_its_session s [] = tt
of_its_session s (t ∷ ts) = by_test (t.job.session == s) refl (of_its_session s ts) where
  by_test : (b : Bool) → (t.job.session == s) ≡ b → Each (λ u. u.job.session ≡ s) (of_session s ts) → Each (λ u. u.job.session ≡ s) (cond b (t ∷ of_session s ts) (of_session s ts))
  by_test true is r = (grind (arith, nat_tests), r)
  by_test false is r = r
