-- What a reply says of all commits and of the break.
use Rattle.std.proofs.Common.{◌≡◌, ℕ, ◌<◌, ◌≤◌, true, true≢false, List, [], ◌∷◌, ◌++◌, length, take, sym, ap, ◌∙◌, subst, arith, append-nil, append_assoc, length-append}
use mathlib.Core.List.{IsPrefix}
use Rattle.tl_types.specs.declared.commits.Entry.{Entry}
use Rattle.tl_types.specs.declared.commits.Entry.TheVariants as entry
use Rattle.tl_types.specs.Entries.{commits_of, has_break}
use Rattle.tl_jobs.specs.declared.readings.JobReading.TheVariants.{Query}
use Rattle.tl_jobs.specs.declared.replies.ReplyBody.{ReplyBody}
use Rattle.tl_jobs.specs.declared.replies.ReplyBody.TheVariants as body
use Rattle.tl_jobs.specs.Jobs.{Job}
use Rattle.tl_jobs.specs.Turns.{Turn, Meaning, break_of, HasFault, Makes, ReadsWell}
use Rattle.tl_session.specs.Promises.{Appended, BodySays, Says}
use Rattle.tl_session.specs.Transcript.{RowsRight, RefusedRight, DoneRight, DeviceRight, BrokenRight, Between, body_breaks}
use Rattle.tl_engine.proofs.CountLemmas.{begins_on}
use Rattle.tl_history.proofs.ListLemmas.{break_there as break_last}
use Rattle.tl_types.specs.Legality.{are_legal}
use Rattle.tl_session.proofs.EntryLemmas.{commits_split, fewer_commits, same_front, whole_front, all_there, unbroken, break_found, break_there_on, placed}

appended : (old base new : List Entry) (e : Entry) → Appended old base new e → IsPrefix old new
appended old base new e a = begins_on old base new a.0 (e ∷ [], sym a.1)

-- what was seen before begins what is seen now
pub says_before : (m : Meaning) (job : Job) (v : ℕ) (b : ReplyBody) (old new : List Entry) → BodySays m job v b old new → IsPrefix old new
says_before m job v (body.Rows r) old new b = b.0.0
says_before m job v (body.Refused f) old new b = b.0.0
says_before m job v body.Done old new b = appended old b.0 new (entry.Commit b.1) b.2
says_before m job v body.DeviceFault old new b = appended old b.0 new (entry.Break b.1) b.2
says_before m job v body.BrokenJournal old new b = b.0

base_before : (old base new : List Entry) (e : Entry) → Appended old base new e → IsPrefix base new
base_before old base new e a = (e ∷ [], sym a.1)

-- the version lies between what was seen before and after
pub says_between : (m : Meaning) (job : Job) (v : ℕ) (b : ReplyBody) (old new : List Entry) → BodySays m job v b old new → (length (commits_of old) ≤ v) × (v ≤ length (commits_of new))
says_between m job v (body.Rows r) old new b = (b.0.1, b.0.2)
says_between m job v (body.Refused f) old new b = (b.0.1, b.0.2)
says_between m job v body.Done old new b =
    let low = fewer_commits old b.0 b.2.0 in let is = b.3 in
    let more = ap (λ l. length (commits_of l)) b.2.1 in let split = ap length (commits_split b.0 (entry.Commit b.1 ∷ [])) in let long = length-append (commits_of b.0) (b.1 ∷ []) in
    (omega (arith, low, is), omega (arith, is, more, split, long))
says_between m job v body.DeviceFault old new b =
    let low = fewer_commits old b.0 b.2.0 in let is = b.3 in let high = fewer_commits b.0 new (base_before old b.0 new (entry.Break b.1) b.2) in
    (omega (arith, low, is), omega (arith, is, high))
says_between m job v body.BrokenJournal old new b = let low = fewer_commits old new b.0 in let is = b.2 in (omega (arith, low, is), omega (arith, is))

-- after what was seen the rest follows
pub goes_on : (old base new last : List Entry) (e : Entry) → Appended old base new e → (p : IsPrefix new last) → base ++ e ∷ p.0 ≡ last
goes_on old base new last e a p = sym (append_assoc base (e ∷ []) p.0) ∙ (ap (λ l. l ++ p.0) (sym a.1) ∙ p.1)

pub rows_right : (m : Meaning) (t : Turn) (old new last : List Entry) → IsPrefix new last → Says m t old new → RowsRight m (commits_of last) t
rows_right m t old new last p says r is =
    let b = subst (λ x. BodySays m t.job t.reply.version x old new) is says.0 in
    subst (λ l. m.reads l t.job (Query r)) (same_front new last t.reply.version p b.0.2) b.1

pub refused_right : (m : Meaning) (t : Turn) (old new last : List Entry) → IsPrefix new last → Says m t old new → RefusedRight m (commits_of last) t
refused_right m t old new last p says f is =
    let b = subst (λ x. BodySays m t.job t.reply.version x old new) is says.0 in
    subst (λ l. HasFault m l t.job f) (same_front new last t.reply.version p b.0.2) b.1

pub done_right : (m : Meaning) (t : Turn) (opening old new last : List Entry) → IsPrefix opening old → IsPrefix new last → Says m t old new → DoneRight m (commits_of last) (length (commits_of opening)) t
done_right m t opening old new last o p says is =
    let b = subst (λ x. BodySays m t.job t.reply.version x old new) is says.0 in
    let base = b.0 in
    let goes = goes_on old base new last (entry.Commit b.1) b.2 p in (
      length (commits_of base),
      b.3,
      fewer_commits opening base (begins_on opening old base o b.2.0),
      b.1,
      placed base b.1 p.0 last goes,
      subst (λ l. Makes m l t.job b.1) (sym (whole_front base last (entry.Commit b.1 ∷ p.0, goes))) b.4,
    )

pub device_right : (m : Meaning) (t : Turn) (old new last : List Entry) → are_legal last ≡ true → IsPrefix new last → Says m t old new → DeviceRight m (commits_of last) (break_of last) t
device_right m t old new last l p says is =
    let b = subst (λ x. BodySays m t.job t.reply.version x old new) is says.0 in
    let base = b.0 in
    let goes = goes_on old base new last (entry.Break b.1) b.2 p in
    let none = unbroken base (entry.Break b.1) p.0 (subst (λ es. are_legal es ≡ true) (sym goes) l) in
    let same : commits_of base ≡ commits_of last = sym (append-nil (commits_of base)) ∙ (sym (commits_split base (entry.Break b.1 ∷ [])) ∙ ap commits_of (sym b.2.1)) ∙ all_there new last p (ap has_break b.2.1 ∙ break_last base b.1) l in
    (b.3 ∙ ap length same, b.1, ap break_of (sym goes) ∙ break_found base b.1 p.0 none, subst (λ z. Makes m z t.job b.1) same b.4)

pub broken_right : (m : Meaning) (t : Turn) (old new last : List Entry) → are_legal last ≡ true → IsPrefix new last → Says m t old new → BrokenRight m (commits_of last) (break_of last) t
broken_right m t old new last l p says is =
    let b = subst (λ x. BodySays m t.job t.reply.version x old new) is says.0 in
    let same = all_there new last p b.1 l in
    (b.2 ∙ ap length same, break_there_on new last p b.1, subst (λ z. ReadsWell m z t.job) same b.3)

pub lies_between : (m : Meaning) (t : Turn) (opening old new last : List Entry) → IsPrefix opening old → IsPrefix new last → Says m t old new → Between (length (commits_of opening)) (length (commits_of last)) t
lies_between m t opening old new last o p says =
    let r = says_between m t.job t.reply.version t.reply.body old new says.0 in let low = fewer_commits opening old o in let high = fewer_commits new last p in
    (omega (arith, r.0, low), omega (arith, r.1, high))

-- a batch that is done rises above all that had been seen
pub done_above : (m : Meaning) (t : Turn) (old new : List Entry) → Says m t old new → t.reply.body ≡ body.Done → length (commits_of old) < t.reply.version
done_above m t old new says is =
    let b = subst (λ x. BodySays m t.job t.reply.version x old new) is says.0 in
    let low = fewer_commits old b.0 b.2.0 in let v = b.3 in omega (arith, low, v)

-- a reply that tells of a break has seen one
pub tells : (m : Meaning) (job : Job) (v : ℕ) (b : ReplyBody) (old new : List Entry) → BodySays m job v b old new → body_breaks b ≡ true → has_break new ≡ true
tells m job v (body.Rows r) old new b is = absurd (true≢false (sym is))
tells m job v (body.Refused f) old new b is = absurd (true≢false (sym is))
tells m job v body.Done old new b is = absurd (true≢false (sym is))
tells m job v body.DeviceFault old new b is = ap has_break b.2.1 ∙ break_last b.0 b.1
tells m job v body.BrokenJournal old new b is = b.1

-- where a break had been seen, a batch that reads well is answered by it
pub stays : (m : Meaning) (t : Turn) (old new last : List Entry) → IsPrefix new last → Says m t old new → has_break old ≡ true → ReadsWell m (take t.reply.version (commits_of last)) t.job → t.reply.body ≡ body.BrokenJournal
stays m t old new last p says is well =
    let r = says_between m t.job t.reply.version t.reply.body old new says.0 in
    says.2 is (subst (λ l. ReadsWell m l t.job) (sym (same_front new last t.reply.version p r.1)) well)
