-- Chains of replies, made longer, from less seen and to more seen; and what sessions ran, put
-- together.
use Rattle.std.proofs.Common.{◌≡◌, ℕ, ◌+◌, ◌<◌, ◌==◌, length, slice_index_or, map, take, drop, slice_get, Some, List, [], ◌∷◌, ◌++◌, refl, sym, ap, ◌∙◌, subst, arith, append-nil, append_assoc, true, true≢false, inl, inr}
use Rattle.std.proofs.lemmas.Bool.Decides.{nat_tests}
use Rattle.std.proofs.lemmas.List.{map-append, take-append-drop}
use Rattle.std.proofs.lemmas.List.Elements.{filter-append}
use Rattle.std.proofs.lemmas.Option.{slice_get-get_or}
use mathlib.Core.List.{IsPrefix}
use Rattle.tl_types.specs.declared.commits.Entry.{Entry}
use Rattle.tl_jobs.specs.declared.replies.ReplyBody.{ReplyBody}
use Rattle.tl_jobs.specs.declared.replies.ReplyBody.TheVariants as body
use Rattle.tl_jobs.specs.declared.jobs.LentJob.{LentJob}
use Rattle.tl_jobs.specs.Jobs.{Job, job_of}
use Rattle.tl_session.specs.Plain as plain
use Rattle.tl_session.specs.Statements.{IsSame, Replied, IsSilent, Stops}
use Rattle.tl_jobs.specs.declared.replies.Reply.{Reply}
use Rattle.tl_session.specs.Phases.{Ran, own_jobs, replies_of}
use Rattle.tl_jobs.specs.Turns.{Turn, Meaning, meant}
use Rattle.tl_session.specs.Promises.{BodySays, Says, Chain, tally, weight}
use Rattle.tl_jobs.specs.Written.{jobs_of}
use Rattle.tl_engine.proofs.CountLemmas.{begins_on}
use Rattle.tl_session.proofs.EntryLemmas.{begins_itself, fewer_commits, break_on}
use Rattle.tl_session.proofs.ListLemmas.{take_next}
use Rattle.tl_session.proofs.SessionLemmas.{own_same}

pub body_from : (m : Meaning) (job : Job) (v : ℕ) (reply : ReplyBody) (a b c : List Entry) → IsPrefix a b → BodySays m job v reply b c → BodySays m job v reply a c
body_from m job v (body.Rows r) a b c p q = let le = fewer_commits a b p in let at = q.0.1 in ((begins_on a b c p q.0.0, omega (arith, le, at), q.0.2), q.1)
body_from m job v (body.Refused f) a b c p q = let le = fewer_commits a b p in let at = q.0.1 in ((begins_on a b c p q.0.0, omega (arith, le, at), q.0.2), q.1)
body_from m job v body.Done a b c p q = (q.0, q.1, (begins_on a b q.0 p q.2.0, q.2.1), q.3, q.4)
body_from m job v body.DeviceFault a b c p q = (q.0, q.1, (begins_on a b q.0 p q.2.0, q.2.1), q.3, q.4)
body_from m job v body.BrokenJournal a b c p q = (begins_on a b c p q.0, q.1, q.2, q.3)

-- what is said over what was seen is said over a beginning of it
pub says_from : (m : Meaning) (t : Turn) (a b c : List Entry) → IsPrefix a b → Says m t b c → Says m t a c
says_from m t a b c p q = (body_from m t.job t.reply.version t.reply.body a b c p q.0, q.1, λ is well. q.2 (break_on a b p is) well)

pub chain_from : (m : Meaning) (a b : List Entry) (ts : List Turn) (c : List Entry) → IsPrefix a b → Chain m b ts c → Chain m a ts c
chain_from m a b [] c p k = begins_on a b c p k
chain_from m a b (t ∷ ts) c p k = (k.0, says_from m t a b k.0 p k.1, k.2)

pub chain_more : (m : Meaning) (a : List Entry) (xs : List Turn) (t : Turn) (b c : List Entry) → Chain m a xs b → Says m t b c → Chain m a (xs ++ t ∷ []) c
chain_more m a [] t b c k q = (c, says_from m t a b c k q, begins_itself c)
chain_more m a (x ∷ xs) t b c k q = (k.0, k.1, chain_more m k.0 xs t b c k.2 q)

pub chain_to : (m : Meaning) (a : List Entry) (ts : List Turn) (b c : List Entry) → Chain m a ts b → IsPrefix b c → Chain m a ts c
chain_to m a [] b c k p = begins_on a b c k p
chain_to m a (t ∷ ts) b c k p = (k.0, k.1, chain_to m k.0 ts b c k.2 p)

pub tally_on : (f : Turn → ℕ) (xs ys : List Turn) → tally f (xs ++ ys) ≡ tally f xs + tally f ys
tally_on f [] ys = omega arith
tally_on f (t ∷ xs) ys = omega (arith, tally_on f xs ys)

pub jobs_on : (xs ys : List Turn) → jobs_of (xs ++ ys) ≡ jobs_of xs ++ jobs_of ys
jobs_on = map-append (λ (t : Turn). t.job)

pub replies_on : (xs ys : List Turn) → replies_of (xs ++ ys) ≡ replies_of xs ++ replies_of ys
replies_on = map-append (λ (t : Turn). t.reply)

-- SESSIONS

pub same_on : (x y z : plain.Access) → IsSame x y → IsSame y z → IsSame x z
same_on x y z f g = record { author = g.author ∙ f.author; table = g.table ∙ f.table; parts = g.parts ∙ f.parts }

-- all of the jobs so far are answered
pub record RanAll (jobs : List Job) (old new : plain.Session) : Type 0 where
  pub turns : List Turn
  pub these : jobs ≡ jobs_of turns
  pub same : IsSame old.access new.access
  pub replies : new.replies ≡ old.replies ++ replies_of turns
  pub chain : Chain meant old.access.seen turns new.access.seen
  pub amount : new.access.amount ≡ old.access.amount + tally weight turns

pub ran_none : (x : plain.Session) → RanAll [] x x
ran_none x = record {
  turns = [];
  these = refl;
  same = record { author = refl; table = refl; parts = refl };
  replies = sym (append-nil x.replies);
  chain = begins_itself x.access.seen;
  amount = omega arith;
}

-- one job more is answered
pub ran_more : (x y z : plain.Session) (jobs : List Job) (job : Job) (reply : Reply) → RanAll jobs x y → Replied job reply y z → RanAll (jobs ++ job ∷ []) x z
ran_more x y z jobs job reply ran answered =
    let turn : Turn = record { job = job; reply = reply } in
    let mid = answered.mid in
    let one = turn ∷ [] in
    record {
      turns = ran.turns ++ one;
      these = ap (λ l. l ++ job ∷ []) ran.these ∙ sym (jobs_on ran.turns one);
      same = same_on x.access y.access z.access ran.same (same_on y.access mid z.access answered.told.same answered.later.same);
      replies = answered.replies ∙ ap (λ l. l ++ reply ∷ []) ran.replies ∙ append_assoc x.replies (replies_of ran.turns) (reply ∷ []) ∙ ap (λ l. x.replies ++ l) (sym (replies_on ran.turns one));
      chain = chain_to meant x.access.seen (ran.turns ++ one) mid.seen z.access.seen (chain_more meant x.access.seen ran.turns turn y.access.seen mid.seen ran.chain (answered.told.says, answered.line, answered.told.broken)) answered.later.later;
      amount = (let p = ran.amount in let q = answered.told.amount in let r = answered.later.amount in omega (arith, p, q, r, tally_on weight ran.turns one));
    }

-- all of the jobs so far are answered, and more was seen
ran_silent : (x y z : plain.Session) (jobs : List Job) → RanAll jobs x y → IsSilent y z → RanAll jobs x z
ran_silent x y z jobs ran silent = record {
  turns = ran.turns;
  these = ran.these;
  same = same_on x.access y.access z.access ran.same silent.more.same;
  replies = silent.replies ∙ ran.replies;
  chain = chain_to meant x.access.seen ran.turns y.access.seen z.access.seen ran.chain silent.more.later;
  amount = silent.more.amount ∙ ran.amount;
}

-- the jobs so far are answered, and memory ran out
ran_front : (x z w : plain.Session) (jobs rest : List Job) → RanAll jobs x z → w.access ≡ z.access → w.replies ≡ z.replies → w.ran_out ≡ true → Ran (jobs ++ rest) x w
ran_front x z w jobs rest ran access replies out = record {
  same = subst (λ a. IsSame x.access a) (sym access) ran.same;
  turns = ran.turns;
  later = rest;
  these = ap (λ l. l ++ rest) ran.these;
  whole = λ e. absurd (true≢false (sym out ∙ e));
  replies = replies ∙ ran.replies;
  chain = subst (λ (a : plain.Access). Chain meant x.access.seen ran.turns a.seen) (sym access) ran.chain;
  amount = ap (λ (a : plain.Access). a.amount) access ∙ ran.amount;
}

-- JOBS ONE BY ONE

pub own_split : (s : ℕ) (xs ys : List Job) → own_jobs s (xs ++ ys) ≡ own_jobs s xs ++ own_jobs s ys
own_split s = filter-append (λ (j : Job). j.session == s)

-- the jobs so far, and the next one
pub taken_next : (s i : ℕ) (lent : List LentJob) (job : LentJob) → Some job ≡ slice_get lent i → own_jobs s (map job_of (take (i + 1) lent)) ≡ own_jobs s (map job_of (take i lent)) ++ own_jobs s (job_of job ∷ [])
taken_next s i lent job at =
    ap (λ l. own_jobs s (map job_of l)) (take_next lent i job (sym at)) ∙ ap (own_jobs s) (map-append job_of (take i lent) (job ∷ [])) ∙ own_split s (map job_of (take i lent)) (map job_of (job ∷ []))

-- the next one is the session's own
pub own_next : (s i : ℕ) (lent : List LentJob) (d : LentJob) → i < length lent → (slice_index_or lent i d).session ≡ s → own_jobs s (map job_of (take (i + 1) lent)) ≡ own_jobs s (map job_of (take i lent)) ++ job_of (slice_index_or lent i d) ∷ []
own_next s i lent d inside own =
    let job = slice_index_or lent i d in
    taken_next s i lent job (sym (slice_get-get_or lent i d inside)) ∙ ap (λ l. own_jobs s (map job_of (take i lent)) ++ l) (own_same s (job_of job) [] (grind (arith, nat_tests)))

pub ran_next : (s i : ℕ) (lent : List LentJob) (d : LentJob) (x y z : plain.Session) → i < length lent → (slice_index_or lent i d).session ≡ y.access.author → y.access.author ≡ s → RanAll (own_jobs s (map job_of (take i lent))) x y → (reply : Reply) → Replied (job_of (slice_index_or lent i d)) reply y z → RanAll (own_jobs s (map job_of (take (i + 1) lent))) x z
ran_next s i lent d x y z inside own author ran reply answered =
    subst (λ l. RanAll l x z) (sym (own_next s i lent d inside (own ∙ author))) (ran_more x y z (own_jobs s (map job_of (take i lent))) (job_of (slice_index_or lent i d)) reply ran answered)

-- memory ran out behind the first so many jobs
ran_out_at : (s i : ℕ) (lent : List LentJob) (x z w : plain.Session) → RanAll (own_jobs s (map job_of (take i lent))) x z → w ≡ record z { ran_out = true } → Ran (own_jobs s (map job_of lent)) x w
ran_out_at s i lent x z w ran is =
    subst (λ l. Ran l x w) (sym (own_split s (map job_of (take i lent)) (map job_of (drop i lent))) ∙ ap (own_jobs s) (sym (map-append job_of (take i lent) (drop i lent)) ∙ ap (map job_of) (take-append-drop i lent)))
    (ran_front x z w (own_jobs s (map job_of (take i lent))) (own_jobs s (map job_of (drop i lent))) ran (ap (λ (v : plain.Session). v.access) is) (ap (λ (v : plain.Session). v.replies) is) (ap (λ (v : plain.Session). v.ran_out) is))

pub ran_stop : (s i : ℕ) (lent : List LentJob) (d : LentJob) (x y z w : plain.Session) → i < length lent → (slice_index_or lent i d).session ≡ y.access.author → y.access.author ≡ s → RanAll (own_jobs s (map job_of (take i lent))) x y → Stops (job_of (slice_index_or lent i d)) y z → w ≡ record z { ran_out = true } → Ran (own_jobs s (map job_of lent)) x w
ran_stop s i lent d x y z w inside own author ran (inl silent) is = ran_out_at s i lent x z w (ran_silent x y z (own_jobs s (map job_of (take i lent))) ran silent) is
ran_stop s i lent d x y z w inside own author ran (inr (reply, replied)) is = ran_out_at s (i + 1) lent x z w (ran_next s i lent d x y z inside own author ran reply replied) is

-- memory ran out before the first job
pub ran_nothing : (jobs : List Job) (x w : plain.Session) → w ≡ record x { ran_out = true } → Ran jobs x w
ran_nothing jobs x w is =
    ran_front x x w [] jobs (ran_none x) (ap (λ (v : plain.Session). v.access) is) (ap (λ (v : plain.Session). v.replies) is) (ap (λ (v : plain.Session). v.ran_out) is)
