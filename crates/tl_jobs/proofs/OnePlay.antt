-- The jobs done one after the other have one list of turns, and leave one list of commits.
use Rattle.std.proofs.Common.{◌≡◌, inl, inr, ℕ, ◌+◌, List, [], ◌∷◌, ◌++◌, length, Result, Ok, Err, refl, ap, sym, ◌∙◌, subst}
use Rattle.tl_types.specs.declared.batches.Batch.{Batch}
use Rattle.tl_types.specs.declared.batches.BatchFault.{BatchFault}
use Rattle.tl_types.specs.declared.commits.Commit.{Commit}
use Rattle.tl_jobs.specs.declared.readings.JobReading.{JobReading}
use Rattle.tl_jobs.specs.declared.readings.JobReading.TheVariants as reading
use Rattle.tl_jobs.specs.declared.replies.Refusal.TheVariants as refusal
use Rattle.tl_jobs.specs.declared.replies.ReplyBody.{ReplyBody}
use Rattle.tl_jobs.specs.declared.replies.ReplyBody.TheVariants as body
use Rattle.tl_jobs.specs.Jobs.{Job}
use Rattle.tl_jobs.specs.Turns.{Turn, meant, made}
use Rattle.tl_jobs.specs.Reading.{Reads}
use Rattle.tl_jobs.specs.Play.{Acts, IsPlay}
use Rattle.tl_jobs.specs.Written.{IsPlayOf, jobs_of, turns_bytes}
use Rattle.tl_jobs.proofs.ReadingLemmas.{one_reading, has_one_reading}

-- ONE JOB

-- the version and the body of a reply, and the commits after it
record Outcome : Type 0 where
  version : ℕ
  answer : ReplyBody
  after : List Commit

-- what a batch over these commits is answered with, by what it becomes
abbrev batch_outcome : List Commit → Result Commit BatchFault → Outcome
batch_outcome cs (Ok c) = record { version = length cs + 1; answer = body.Done; after = cs ++ c ∷ [] }
batch_outcome cs (Err e) = record { version = length cs; answer = body.Refused (refusal.BatchFault e); after = cs }

-- what a job of the session s is answered with over these commits, by what it reads as
abbrev outcome : List Commit → ℕ → JobReading → Outcome
outcome cs s (reading.Loads b) = batch_outcome cs (made cs s b)
outcome cs s (reading.Query a) = record { version = length cs; answer = body.Rows a; after = cs }
outcome cs s (reading.Fault f) = record { version = length cs; answer = body.Refused f; after = cs }

-- a job that is answered so reads as something with this outcome
outcome_is : (job : Job) (v : ℕ) (b : ReplyBody) (cs after : List Commit) → Acts meant job v b cs after → (r : JobReading) × Reads cs job r × (outcome cs job.session r ≡ record { version = v; answer = b; after = after })
outcome_is job v (body.Rows a) cs after (e, reads, d) = (reading.Query a, reads, cc)
outcome_is job v (body.Refused f) cs after (e, inl reads, d) = (reading.Fault f, reads, cc)
outcome_is job v (body.Refused f) cs after (e, inr (b, x, reads, is, same), d) = (reading.Loads b, reads, ap (batch_outcome cs) is ∙ cc)
outcome_is job v body.Done cs after (c, e, (b, reads, is), d) = (reading.Loads b, reads, ap (batch_outcome cs) is ∙ cc)
outcome_is job v body.DeviceFault cs after a = absurd a
outcome_is job v body.BrokenJournal cs after a = absurd a

-- a job over given commits is answered in one way alone
one_outcome : (job : Job) (v w : ℕ) (b d : ReplyBody) (cs after next : List Commit) → Acts meant job v b cs after → Acts meant job w d cs next → (v ≡ w) × (b ≡ d) × (after ≡ next)
one_outcome job v w b d cs after next p q =
    let x = outcome_is job v b cs after p in
    let y = outcome_is job w d cs next q in
    let same = sym x.2 ∙ (ap (outcome cs job.session) (one_reading cs job x.0 y.0 x.1 y.1) ∙ y.2) in
    (ap (λ o. o.version) same, ap (λ o. o.answer) same, ap (λ o. o.after) same)

-- and it is answered so
batch_acts : (job : Job) (cs : List Commit) (b : Batch) (r : Result Commit BatchFault) → Reads cs job (reading.Loads b) → made cs job.session b ≡ r → Acts meant job (batch_outcome cs r).version (batch_outcome cs r).answer cs (batch_outcome cs r).after
batch_acts job cs b (Ok c) reads is = (c, refl, (b, reads, is), refl)
batch_acts job cs b (Err e) reads is = (refl, inr (b, e, reads, is, refl), refl)

outcome_acts : (job : Job) (cs : List Commit) (r : JobReading) → Reads cs job r → Acts meant job (outcome cs job.session r).version (outcome cs job.session r).answer cs (outcome cs job.session r).after
outcome_acts job cs (reading.Loads b) reads = batch_acts job cs b (made cs job.session b) reads refl
outcome_acts job cs (reading.Query a) reads = (refl, reads, refl)
outcome_acts job cs (reading.Fault f) reads = (refl, inl reads, refl)

-- ALL JOBS

-- the turn of a job whose reply has this line, version and body
abbrev turn_with : Job → ℕ → ℕ → ReplyBody → Turn
turn_with job line version answer = record { job = job; reply = record { line = line; version = version; body = answer } }

-- two turns of equal parts are equal
same_turn : (j k : Job) (n o v w : ℕ) (b d : ReplyBody) → j ≡ k → n ≡ o → v ≡ w → b ≡ d → turn_with j n v b ≡ turn_with k o w d
same_turn j k n o v w b d job line version answer = cc

-- the turns of given jobs from given commits on are one list, and so are the commits afterwards
one_play : (ts us : List Turn) (cs all other : List Commit) → jobs_of ts ≡ jobs_of us → IsPlay meant cs ts all → IsPlay meant cs us other → (ts ≡ us) × (all ≡ other)
one_play [] [] cs all other jobs p q = (refl, p ∙ sym q)
one_play [] (u ∷ us) cs all other jobs p q = absurd (cc)
one_play (t ∷ ts) [] cs all other jobs p q = absurd (cc)
one_play (t ∷ ts) (u ∷ us) cs all other jobs p q =
    let job : t.job ≡ u.job = cc in
    let later : jobs_of ts ≡ jobs_of us = cc in
    let o = one_outcome u.job t.reply.version u.reply.version t.reply.body u.reply.body cs p.0 q.0 (subst (λ j. Acts meant j t.reply.version t.reply.body cs p.0) job p.1) q.1 in
    let rest = one_play ts us q.0 all other later (subst (λ l. IsPlay meant l ts all) o.2 p.3) q.3 in
    let line = p.2 ∙ (ap (λ j. j.line) job ∙ sym q.2) in
    let same : t ≡ u = same_turn t.job u.job t.reply.line u.reply.line t.reply.version u.reply.version t.reply.body u.reply.body job line o.0 o.1 in
    (cc, rest.1)

pub one_play_written : (names : List (List ℕ)) (jobs : List Job) (opening all other : List Commit) (bytes others : List ℕ) → IsPlayOf names jobs opening all bytes → IsPlayOf names jobs opening other others → (all ≡ other) × (bytes ≡ others)
one_play_written names jobs opening all other bytes others (ts, these, p, e) (us, those, q, d) =
    let same = one_play ts us opening all other (these ∙ sym those) p q in
    (same.1, e ∙ (ap (turns_bytes names) same.0 ∙ sym d))

-- and there is such a list
some_play : (jobs : List Job) (cs : List Commit) → (ts : List Turn) × (all : List Commit) × (jobs_of ts ≡ jobs) × IsPlay meant cs ts all
some_play [] cs = ([], cs, refl, refl)
some_play (job ∷ jobs) cs =
    let r = (has_one_reading cs job).read in
    let o = outcome cs job.session r.0 in
    let rest = some_play jobs o.after in
    (turn_with job job.line o.version o.answer ∷ rest.0, rest.1, ap (λ l. job ∷ l) rest.2, (o.after, outcome_acts job cs r.0 r.1, refl, rest.3))

pub some_play_written : (names : List (List ℕ)) (jobs : List Job) (opening : List Commit) → (all : List Commit) × (bytes : List ℕ) × IsPlayOf names jobs opening all bytes
some_play_written names jobs opening =
    let play = some_play jobs opening in
    (play.1, turns_bytes names play.0, (play.0, play.2, play.3, refl))
