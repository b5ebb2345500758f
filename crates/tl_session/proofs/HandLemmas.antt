-- Replies that are handed out from the last job to the first.
use Rattle.std.proofs.Common.{◌≡◌, ℕ, zero, suc, ◌+◌, ◌-◌, ◌<◌, ◌≤◌, ◌==◌, Bool, true, false, List, [], ◌∷◌, ◌++◌, length, map, reverse, set, slice_get, slice_index_or, Option, Some, None, refl, sym, ap, ◌∙◌, subst, arith, append-nil, append_assoc}
use Rattle.std.proofs.lemmas.Bool.Decides.{nat_tests}
use Rattle.std.specs.Option.{option_map}
use Rattle.std.proofs.lemmas.List.{reverse-append, length-map, same_from_push, set-get_or, get_or-set_same, get_or-set_other}
use Rattle.std.proofs.lemmas.List.Elements.{filter-append}
use Rattle.std.proofs.lemmas.Option.{same_Some, slice_get-map, slice_get-get_or, slice_get_within, get_or_from_slice_get}
use mathlib.Core.List.{IsPrefix}
use Rattle.tl_jobs.specs.declared.replies.Reply.{Reply}
use Rattle.tl_jobs.specs.declared.jobs.LentJob.{LentJob}
use Rattle.tl_jobs.specs.Jobs.{Job, job_of}
use Rattle.tl_session.specs.Plain as plain
use Rattle.tl_session.specs.Phases.{HaveReplies, KeepAll, LosesLast, LosesReply, TakesLast, amounts_of, parts_of, replies_of, with_replies}
use Rattle.tl_jobs.specs.Turns.{Turn, of_session}
use Rattle.tl_jobs.specs.Written.{jobs_of}
use Rattle.tl_session.proofs.ChainLemmas.{jobs_on, replies_on}
use Rattle.tl_session.proofs.ListLemmas.{item_at}
use Rattle.tl_session.proofs.SessionLemmas.{is_itself, turns_same, turns_other}

-- WHAT STAYS

pub keep_itself : (xs : List plain.Session) → KeepAll xs xs
keep_itself xs = record { count = refl; parts = refl; amounts = refl; seen = λ all a. a }

pub keep_on : (xs ys zs : List plain.Session) → KeepAll xs ys → KeepAll ys zs → KeepAll xs zs
keep_on xs ys zs f g = record { count = g.count ∙ f.count; parts = g.parts ∙ f.parts; amounts = g.amounts ∙ f.amounts; seen = λ all a. f.seen all (g.seen all a) }

keep_set : (xs : List plain.Session) (i : ℕ) (x : plain.Session) (rs : List Reply) → slice_get xs i ≡ Some x → KeepAll xs (set xs i (with_replies rs x))
keep_set [] i x rs h = keep_itself []
keep_set (y ∷ ys) zero x rs h =
    let same : y ≡ x = same_Some y x h in
    record {
      count = refl;
      parts = ap (λ (z : plain.Session). z.access.parts + parts_of ys) (sym same);
      amounts = ap (λ (z : plain.Session). z.access.amount + amounts_of ys) (sym same);
      seen = λ all a. (subst (λ (z : plain.Session). IsPrefix z.access.seen all) (sym same) a.0, a.1);
    }
keep_set (y ∷ ys) (suc i) x rs h =
    let k = keep_set ys i x rs h in
    record { count = ap suc k.count; parts = ap (λ n. y.access.parts + n) k.parts; amounts = ap (λ n. y.access.amount + n) k.amounts; seen = λ all a. (a.0, k.seen all a.1) }

pub keep_last : (place : ℕ) (xs ys : List plain.Session) (o : Option Reply) → TakesLast place xs ys o → KeepAll xs ys
keep_last place xs ys None t = subst (KeepAll xs) (sym t) (keep_itself xs)
keep_last place xs ys (Some r) t = subst (KeepAll xs) (sym t.new_is) (keep_set xs place t.session t.left t.there)

-- a reply that is taken out of the session at a place
pub taken_at : (place : ℕ) (xs ys : List plain.Session) (d y : plain.Session) (o : Option Reply) → place < length xs → LosesReply (slice_index_or xs place d) y o → ys ≡ set xs place y → TakesLast place xs ys o
taken_at place xs ys d y (Some r) inside lost is = record { session = slice_index_or xs place d; left = lost.left; there = slice_get-get_or xs place d inside; last = lost.last; new_is = is ∙ ap (set xs place) lost.new_is }
taken_at place xs ys d y None inside lost is =
    let x = slice_index_or xs place d in
    let same : y ≡ x = lost.new_is ∙ ap (λ rs. with_replies rs x) (sym (lost.last ∙ append-nil lost.left)) in
    is ∙ ap (set xs place) same ∙ set-get_or xs place d

-- WHAT IS HANDED OUT

-- the sessions hold the replies of the first turns, so many, and those of the others are handed out,
-- the last one first
pub record Halves (xs : List plain.Session) (left : ℕ) (out : List Reply) (turns : List Turn) : Type 0 where
  pub front : List Turn
  pub back : List Turn
  pub whole : turns ≡ front ++ back
  pub long : length front ≡ left
  pub held : HaveReplies xs front
  pub told : reverse out ≡ replies_of back

-- the same for any turns of the jobs whose replies all sessions held
abbrev pub HandsOut : List Job → List plain.Session → List plain.Session → ℕ → List Reply → Type 0
HandsOut jobs all xs left out = (turns : List Turn) → jobs_of turns ≡ jobs → HaveReplies all turns → Halves xs left out turns

jobs_long : (turns : List Turn) → length (jobs_of turns) ≡ length turns
jobs_long turns = length-map turns (λ (t : Turn). t.job)

-- a list that is not empty has a last item
record Last (xs : List Turn) (k : ℕ) : Type 0 where
  pub before : List Turn
  pub last : Turn
  pub whole : xs ≡ before ++ last ∷ []
  pub long : length before ≡ k

last_of : (xs : List Turn) (k : ℕ) → length xs ≡ k + 1 → Last xs k
last_of [] k long = absurd (omega (arith, long))
last_of (t ∷ []) k long = record { before = []; last = t; whole = refl; long = omega (arith, long) }
last_of (t ∷ u ∷ ts) zero long = absurd (omega (arith, long))
last_of (t ∷ u ∷ ts) (suc k) long =
    let r = last_of (u ∷ ts) k (omega (arith, long)) in
    record { before = t ∷ r.before; last = r.last; whole = ap (λ l. t ∷ l) r.whole; long = ap suc r.long }

-- the turns of a session, with one turn more
own_more : (s : ℕ) (ts : List Turn) (t : Turn) → of_session s (ts ++ t ∷ []) ≡ of_session s ts ++ of_session s (t ∷ [])
own_more s ts t = filter-append (λ (u : Turn). u.job.session == s) ts (t ∷ [])

-- the last reply of the last turn's session is that turn's
last_told : (xs ys : List plain.Session) (front : List Turn) (t : Turn) (reply : Reply) → HaveReplies xs (front ++ t ∷ []) → LosesLast t.job.session xs ys reply → (reply ≡ t.reply) × HaveReplies ys front
last_told xs ys front t reply held lost =
    let s = t.job.session in
    let there = slice_get_within xs s lost.session lost.there in
    let at = get_or_from_slice_get xs s lost.session lost.session lost.there in
    let own : of_session s (front ++ t ∷ []) ≡ of_session s front ++ t ∷ [] = own_more s front t ∙ ap (λ l. of_session s front ++ l) (turns_same s t [] (is_itself s)) in
    let ends = same_from_push lost.left (replies_of (of_session s front)) reply t.reply (sym lost.last ∙ ap (λ (x : plain.Session). x.replies) (sym at) ∙ held s lost.session there ∙ ap replies_of own ∙ replies_on (of_session s front) (t ∷ [])) in
    (ends.1, λ i d inside. ap (λ (l : List plain.Session). (slice_index_or l i d).replies) lost.new_is ∙ by_test i d (s == i) refl (omega (arith, inside, (keep_last s xs ys (Some reply) lost).count)) there ends.0) where
      by_test : (i : ℕ) (d : plain.Session) (b : Bool) → (t.job.session == i) ≡ b → i < length xs → t.job.session < length xs → lost.left ≡ replies_of (of_session t.job.session front) → (slice_index_or (set xs t.job.session (with_replies lost.left lost.session)) i d).replies ≡ replies_of (of_session i front)
      by_test i d true e inside there is =
          let same : t.job.session ≡ i = grind (arith, nat_tests) in
          ap (λ n. (slice_index_or (set xs t.job.session (with_replies lost.left lost.session)) n d).replies) (sym same) ∙ ap (λ (x : plain.Session). x.replies) (get_or-set_same xs t.job.session (with_replies lost.left lost.session) d there) ∙ is ∙ ap (λ n. replies_of (of_session n front)) same
      by_test i d false e inside there is =
          ap (λ (x : plain.Session). x.replies) (get_or-set_other xs t.job.session i (with_replies lost.left lost.session) d (grind (arith, nat_tests))) ∙ held i d inside ∙ ap replies_of (own_more i front t ∙ ap (λ l. of_session i front ++ l) (turns_other i t [] e) ∙ append-nil (of_session i front))

-- one reply more is handed out
pub hands_more : (jobs : List Job) (all xs ys : List plain.Session) (k : ℕ) (out new : List Reply) (job : Job) (reply : Reply) → slice_get jobs k ≡ Some job → LosesLast job.session xs ys reply → new ≡ out ++ reply ∷ [] → HandsOut jobs all xs (k + 1) out → HandsOut jobs all ys k new
hands_more jobs all xs ys k out new job reply at lost more hands turns are held =
    let h = hands turns are held in
    let l = last_of h.front k h.long in
    let split : turns ≡ l.before ++ l.last ∷ h.back = h.whole ∙ ap (λ z. z ++ h.back) l.whole ∙ append_assoc l.before (l.last ∷ []) h.back in
    let jobs_are : jobs ≡ jobs_of l.before ++ l.last.job ∷ jobs_of h.back = sym are ∙ ap jobs_of split ∙ jobs_on l.before (l.last ∷ h.back) in
    let is : l.last.job ≡ job = same_Some l.last.job job (sym (item_at (jobs_of l.before) l.last.job (jobs_of h.back) k (jobs_long l.before ∙ l.long)) ∙ ap (λ z. slice_get z k) (sym jobs_are) ∙ at) in
    let told = last_told xs ys l.before l.last reply (subst (HaveReplies xs) l.whole h.held) (subst (λ (j : Job). LosesLast j.session xs ys reply) (sym is) lost) in
    record {
      front = l.before;
      back = l.last ∷ h.back;
      whole = split;
      long = l.long;
      held = told.1;
      told = ap reverse more ∙ reverse-append out (reply ∷ []) ∙ ap (λ z. z ∷ reverse out) told.0 ∙ ap (λ z. l.last.reply ∷ z) h.told;
    }

pub kept_step : (place : ℕ) (all xs ys : List plain.Session) (o : Option Reply) → KeepAll all xs → TakesLast place xs ys o → KeepAll all ys
kept_step place all xs ys o kept taken = keep_on all xs ys kept (keep_last place xs ys o taken)

-- one step of handing out: the job before the others
pub hands_lent : (lent : List LentJob) (all xs ys : List plain.Session) (left : ℕ) (out new : List Reply) (d : LentJob) (reply : Reply) (o : Option Reply) → 0 < left → left ≤ length lent → TakesLast (slice_index_or lent (left - 1) d).session xs ys o → o ≡ Some reply → new ≡ out ++ reply ∷ [] → HandsOut (map job_of lent) all xs left out → HandsOut (map job_of lent) all ys (left - 1) new
hands_lent lent all xs ys left out new d reply o more within taken found pushed hands =
    let job = slice_index_or lent (left - 1) d in
    let there = slice_get-map job_of lent (left - 1) ∙ ap (option_map job_of) (slice_get-get_or lent (left - 1) d (omega (arith, more, within))) in
    let count : left ≡ left - 1 + 1 = omega (arith, more) in
    hands_more (map job_of lent) all xs ys (left - 1) out new (job_of job) reply there (subst (TakesLast job.session xs ys) found taken) pushed (subst (λ n. HandsOut (map job_of lent) all xs n out) count hands)
