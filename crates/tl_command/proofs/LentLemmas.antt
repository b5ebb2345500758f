-- Jobs of a phase that are lent are of the same sessions.
use Rattle.std.proofs.Common.{◌≡◌, ℕ, zero, suc, ◌<◌, List, [], ◌∷◌, map, All, sym, ap, subst, arith}
use Rattle.tl_script.specs.Script.{Job as ScriptJob}
use Rattle.tl_jobs.specs.declared.jobs.LentJob.{LentJob}
use Rattle.tl_jobs.specs.Jobs.{Job, job_of}
use Rattle.tl_command.specs.Jobs.{asked}

pub sessions_lent : (n : ℕ) (lent : List LentJob) (jobs : List ScriptJob) → map job_of lent ≡ map asked jobs → All (λ job. job.session < n) jobs → All (λ job. job.session < n) lent
sessions_lent n [] jobs e all k d inside = absurd (omega (arith, inside))
sessions_lent n (l ∷ lent) [] e all k d inside = absurd (cc)
sessions_lent n (l ∷ lent) (j ∷ jobs) e all zero d inside = subst (λ (s : ℕ). s < n) (sym (ap first_session e)) (all 0 j (omega arith)) where
  first_session : List Job → ℕ
  first_session [] = 0
  first_session (x ∷ xs) = x.session
sessions_lent n (l ∷ lent) (j ∷ jobs) e all (suc k) d inside = sessions_lent n lent jobs (ap tail e) (λ i x within. all (suc i) x (omega (arith, within))) k d (omega (arith, inside)) where
  tail : List Job → List Job
  tail [] = []
  tail (x ∷ xs) = xs
