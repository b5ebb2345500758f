-- The bytes of replies under the names of sessions, of which more may come.
use Rattle.std.proofs.Common.{◌≡◌, ℕ, zero, suc, ◌+◌, ◌<◌, List, [], ◌∷◌, ◌++◌, length, map, get_or, All, Option, Some, None, refl, sym, ap, ◌∙◌, subst, arith, append_assoc, append-nil, length-append}
use Rattle.tl_device.specs.Known.{append_known}
use Rattle.tl_device.proofs.Known.{append_both}
use Rattle.tl_script.specs.Script.{Job as ScriptJob}
use Rattle.tl_script.specs.Reader.{Grows}
use Rattle.tl_jobs.specs.Jobs.{Job}
use Rattle.tl_jobs.specs.Replies.{reply_bytes}
use Rattle.tl_jobs.specs.Turns.{Turn, Each}
use Rattle.tl_jobs.specs.Written.{turn_bytes, turns_bytes, jobs_of}
use Rattle.tl_command.specs.Jobs.{asked}

-- the bytes of turns and of further ones
pub turns_on : (names : List (List ℕ)) (xs ys : List Turn) → turns_bytes names (xs ++ ys) ≡ turns_bytes names xs ++ turns_bytes names ys
turns_on names [] ys = refl
turns_on names (t ∷ ts) ys = ap (λ b. turn_bytes names t ++ b) (turns_on names ts ys) ∙ sym (append_assoc (turn_bytes names t) (turns_bytes names ts) (turns_bytes names ys))

-- what was written, and then more
pub written_more : (first old new : Option (List ℕ)) (xs ys : List ℕ) → old ≡ append_known first xs → new ≡ append_known old ys → new ≡ append_known first (xs ++ ys)
written_more first old new xs ys e f = f ∙ (ap (λ o. append_known o ys) e ∙ sym (append_both first xs ys))

pub written_none : (written : Option (List ℕ)) → written ≡ append_known written []
written_none None = refl
written_none (Some b) = ap Some (sym (append-nil b))

-- a name among the first ones stays where it is
same_name : (names more : List (List ℕ)) (i : ℕ) → i < length names → get_or (names ++ more) i [] ≡ get_or names i []
same_name [] more i inside = absurd (omega arith)
same_name (x ∷ names) more zero inside = refl
same_name (x ∷ names) more (suc i) inside = same_name names more i (omega (arith, inside))

-- the session of the turn is one of the first n
abbrev pub Inside : ℕ → Turn → Type 0
Inside n t = t.job.session < n

-- the same replies under names of which those are the first
pub same_turns : (old new : List (List ℕ)) (ts : List Turn) → Grows old new → Each (Inside (length old)) ts → turns_bytes old ts ≡ turns_bytes new ts
same_turns old new [] g e = refl
same_turns old new (t ∷ ts) (more, is) e =
    let name : get_or old t.job.session [] ≡ get_or new t.job.session [] = sym (same_name old more t.job.session e.0) ∙ ap (λ l. get_or l t.job.session []) (sym is) in
    ap (λ n. reply_bytes n t.reply ++ turns_bytes old ts) name ∙ ap (λ b. turn_bytes new t ++ b) (same_turns old new ts (more, is) e.1)

-- the sessions stay among the names where more come
pub each_grows : (old new : List (List ℕ)) (ts : List Turn) → Grows old new → Each (Inside (length old)) ts → Each (Inside (length new)) ts
each_grows old new [] g e = tt
each_grows old new (t ∷ ts) (more, is) e = ((let i = e.0 in omega (arith, i, ap length is, length-append old more)), each_grows old new ts (more, is) e.1)

-- the sessions of turns are those of their jobs
pub turns_inside : (n : ℕ) (jobs : List ScriptJob) (ts : List Turn) → All (λ job. job.session < n) jobs → jobs_of ts ≡ map asked jobs → Each (Inside n) ts
turns_inside n jobs [] all e = tt
turns_inside n [] (t ∷ ts) all e = absurd (cc)
turns_inside n (job ∷ jobs) (t ∷ ts) all e = (
  subst (λ (s : ℕ). s < n) (ap first_session (sym e)) (all 0 job (omega arith)),
  turns_inside n jobs ts (λ k d inside. all (suc k) d (omega (arith, inside))) (ap tail e),
) where
  first_session : List Job → ℕ
  first_session [] = 0
  first_session (j ∷ js) = j.session

  tail : List Job → List Job
  tail [] = []
  tail (j ∷ js) = js
