-- The replies of sessions whose tables were tended.
use Rattle.std.proofs.Common.{◌≡◌, ℕ, ◌≤◌, List, [], ◌∷◌, ◌++◌, length, sym, ap, subst, arith, length-append}
use mathlib.Core.List.{IsPrefix}
use Rattle.tl_types.specs.declared.commits.Entry.{Entry}
use Rattle.tl_types.specs.Entries.{commits_of}
use Rattle.tl_engine.proofs.CountLemmas.{begins_on}
use Rattle.tl_history.proofs.ListLemmas.{commits_more}
use Rattle.tl_engine.proofs.TendLemmas.{versions_more}
use Rattle.tl_jobs.specs.declared.replies.Reply.{Reply}
use Rattle.tl_jobs.specs.declared.replies.ReplyBody.TheVariants as body
use Rattle.tl_jobs.specs.Jobs.{Job}
use Rattle.tl_session.specs.Plain as plain
use Rattle.tl_session.specs.Phases.{replies_of}
use Rattle.tl_session.specs.Promises.{BodySays}
use Rattle.tl_session.specs.Statements.{AnswersJob, Replied}
use Rattle.tl_session.specs.Tending.{WasTended, WereTended}
use Rattle.tl_jobs.specs.Turns.{Each, Turn, meant}
use Rattle.tl_session.proofs.EntryLemmas.{begins_itself}
use Rattle.tl_session.proofs.ReplyLemmas.{says_before}

pub were_later : (k : ℕ) (a b : List Entry) (rs : List Reply) → IsPrefix a b → WereTended k a rs → WereTended k b rs
were_later k a b [] later w = tt
were_later k a b (r ∷ rs) later w =
    (record { mid = w.0.mid; begins = begins_on w.0.mid a b w.0.begins later; there = w.0.there; tended = w.0.tended }, were_later k a b rs later w.1)

pub were_more : (k : ℕ) (a : List Entry) (rs : List Reply) (r : Reply) → WereTended k a rs → WasTended k a r → WereTended k a (rs ++ r ∷ [])
were_more k a [] r w one = (one, tt)
were_more k a (x ∷ rs) r w one = (w.0, were_more k a rs r w.1 one)

-- a batch that is done is there
done_there : (job : Job) (reply : Reply) (x y : plain.Session) → Replied job reply x y → reply.body ≡ body.Done → reply.version ≤ length (commits_of y.access.seen)
done_there job reply x y answered done =
    let b = subst (λ z. BodySays meant job reply.version z x.access.seen answered.mid.seen) done answered.told.says in
    omega (arith, b.3, ap (λ es. length (commits_of es)) b.2.1, ap length (commits_more b.0 b.1), length-append (commits_of b.0) (b.1 ∷ []), versions_more answered.mid.seen y.access.seen answered.later.later)

-- a session that answers a job
pub job_tended : (k : ℕ) (job : Job) (x y : plain.Session) → AnswersJob k job x y → WereTended k x.access.seen x.replies → WereTended k y.access.seen y.replies
job_tended k job x y answers before =
    let r = answers.replied in
    let later = begins_on x.access.seen r.mid.seen y.access.seen (says_before meant job answers.reply.version answers.reply.body x.access.seen r.mid.seen r.told.says) r.later.later in
    subst (WereTended k y.access.seen) (sym r.replies) (were_more k y.access.seen x.replies answers.reply (were_later k x.access.seen y.access.seen x.replies later before) (record {
      mid = y.access.seen;
      begins = begins_itself y.access.seen;
      there = done_there job answers.reply x y r;
      tended = answers.tended;
    }))

-- the same of the turns
pub each_turn : (k : ℕ) (seen : List Entry) (ts : List Turn) → WereTended k seen (replies_of ts) → Each (λ t. WasTended k seen t.reply) ts
each_turn k seen [] w = tt
each_turn k seen (t ∷ ts) w = (w.0, each_turn k seen ts w.1)

pub each_reply : (k : ℕ) (seen : List Entry) (ts : List Turn) → Each (λ t. WasTended k seen t.reply) ts → WereTended k seen (replies_of ts)
each_reply k seen [] e = tt
each_reply k seen (t ∷ ts) e = (e.0, each_reply k seen ts e.1)
