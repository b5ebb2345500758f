-- What the sessions say, each for itself, makes a transcript.
use Rattle.std.proofs.Common.{◌≡◌, ℕ, ◌+◌, ◌-◌, ◌<◌, ◌≤◌, ◌==◌, ◌||◌, max, Bool, true, false, true≢false, List, [], ◌∷◌, ◌++◌, length, get_or, Option, Some, None, refl, sym, ap, ◌∙◌, subst, arith}
use Rattle.std.proofs.Math.Seq.{get_or-append_seam}
use Rattle.std.proofs.lemmas.Bool.Decides.{nat_tests}
use Rattle.std.proofs.lemmas.Option.{none-some}
use mathlib.Core.List.{IsPrefix}
use Rattle.tl_types.specs.declared.commits.Commit.{Commit}
use Rattle.tl_types.specs.declared.commits.Entry.{Entry}
use Rattle.tl_types.specs.declared.commits.Entry.TheVariants as entry
use Rattle.tl_types.specs.Limits.{standard_limits}
use Rattle.tl_types.specs.History.{database_of}
use Rattle.tl_types.specs.Entries.{commits_of, has_break}
use Rattle.tl_jobs.specs.declared.replies.ReplyBody.{ReplyBody}
use Rattle.tl_jobs.specs.declared.replies.ReplyBody.TheVariants as body
use Rattle.tl_jobs.specs.Jobs.{Job}
use Rattle.tl_jobs.specs.Turns.{Turn, Meaning, Makes, break_of, of_session, Each, EachOfAll}
use Rattle.tl_engine.specs.Counting.{news}
use Rattle.tl_session.specs.Promises.{Appended, BodySays, Says, Chain, Chains, Promised, tally, whole_tally}
use Rattle.tl_session.specs.Transcript.{OwnLine, RowsRight, RefusedRight, DoneRight, DeviceRight, BrokenRight, Between, NeverFalls, DoneRises, Above, highest, done_at, done_with, device, body_device, body_breaks, breaks, StaysBroken, AllStayBroken, OneDone, OneDevice, Transcript}
use Rattle.tl_session.proofs.AuthorLemmas.{signed}
use Rattle.tl_engine.proofs.CountLemmas.{begins_on}
use Rattle.tl_types.specs.Legality.{are_legal}
use Rattle.tl_session.proofs.EntryLemmas.{begins_itself, news_split, fewer_commits, fewer_news, break_on, unbroken, news_are, break_there_on, news_count, one_for}
use Rattle.tl_session.proofs.ReplyLemmas.{says_before, says_between, goes_on, rows_right, refused_right, done_right, device_right, broken_right, lies_between, done_above, tells, stays}
use Rattle.tl_session.proofs.SessionLemmas.{each_of_sessions, of_its_session}
use Rattle.tl_session.proofs.CountingLemmas.{key_of, hit_of, hit, miss, StepOf, Steps, Walk, each_once}

-- FACTS OF EACH REPLY

pub chain_before : (m : Meaning) (old : List Entry) (ts : List Turn) (new : List Entry) → Chain m old ts new → IsPrefix old new
chain_before m old [] new k = k
chain_before m old (t ∷ ts) new k = begins_on old k.0 new (says_before m t.job t.reply.version t.reply.body old k.0 k.1.0) (chain_before m k.0 ts new k.2)

pub chains_before : (m : Meaning) (old : List Entry) (phases : List (List Turn)) (last : List Entry) → Chains m old phases last → IsPrefix old last
chains_before m old [] last r = r
chains_before m old (phase ∷ phases) last r = begins_on old r.0 last r.1 (chains_before m r.0 phases last r.3)

-- a fact that each reply's own words give
abbrev Fact : Meaning → List Entry → List Entry → (Turn → Type 0) → Type 0
Fact m opening last P = (t : Turn) (old new : List Entry) → IsPrefix opening old → IsPrefix new last → Says m t old new → P t

chain_each : (m : Meaning) (opening last : List Entry) (P : Turn → Type 0) → Fact m opening last P → (old : List Entry) (ts : List Turn) (new : List Entry) → IsPrefix opening old → IsPrefix new last → Chain m old ts new → Each P ts
chain_each m opening last P fact old [] new o p k = tt
chain_each m opening last P fact old (t ∷ ts) new o p k =
    let before = says_before m t.job t.reply.version t.reply.body old k.0 k.1.0 in
    (fact t old k.0 o (begins_on k.0 new last (chain_before m k.0 ts new k.2) p) k.1, chain_each m opening last P fact k.0 ts new (begins_on opening old k.0 o before) p k.2)

phase_each : (m : Meaning) (opening last : List Entry) (P : Turn → Type 0) → Fact m opening last P → (old : List Entry) (phase : List Turn) (new : List Entry) → IsPrefix opening old → IsPrefix new last → ((s : ℕ) → Chain m old (of_session s phase) new) → Each P phase
phase_each m opening last P fact old phase new o p k = each_of_sessions P phase (λ s. chain_each m opening last P fact old (of_session s phase) new o p (k s))

whole_each : (m : Meaning) (opening last : List Entry) (P : Turn → Type 0) → Fact m opening last P → (old : List Entry) (phases : List (List Turn)) → IsPrefix opening old → Chains m old phases last → EachOfAll P phases
whole_each m opening last P fact old [] o r = tt
whole_each m opening last P fact old (phase ∷ phases) o r = (
  phase_each m opening last P fact old phase r.0 o (chains_before m r.0 phases last r.3) r.2,
  whole_each m opening last P fact r.0 phases (begins_on opening old r.0 o r.1) r.3,
)

-- the same from the opening on
pub each_right : (m : Meaning) (opening last : List Entry) (P : Turn → Type 0) → Fact m opening last P → (phases : List (List Turn)) → Promised m opening last phases → EachOfAll P phases
each_right m opening last P fact phases p = whole_each m opening last P fact opening phases (begins_itself opening) p.chains

-- ORDER

never_falls : (m : Meaning) (top : ℕ) (old : List Entry) (ts : List Turn) (new : List Entry) → top ≤ length (commits_of old) → Chain m old ts new → NeverFalls top ts
never_falls m top old [] new le k = tt
never_falls m top old (t ∷ ts) new le k =
    let r = says_between m t.job t.reply.version t.reply.body old k.0 k.1.0 in
    (omega (arith, le, r.0), never_falls m t.reply.version k.0 ts new r.1 k.2)

done_rises : (m : Meaning) (top : ℕ) (old : List Entry) (ts : List Turn) (new : List Entry) → top ≤ length (commits_of old) → Chain m old ts new → DoneRises top ts
done_rises m top old [] new le k = tt
done_rises m top old (t ∷ ts) new le k =
    let r = says_between m t.job t.reply.version t.reply.body old k.0 k.1.0 in
    ((λ is. omega (arith, le, done_above m t old k.0 k.1 is)), done_rises m (max top t.reply.version) k.0 ts new (omega (arith, le, r.0, r.1)) k.2)

-- the version is at most this
abbrev AtMost : ℕ → Turn → Type 0
AtMost n t = t.reply.version ≤ n

highest_most : (n top : ℕ) (ts : List Turn) → top ≤ n → Each (AtMost n) ts → highest top ts ≤ n
highest_most n top [] le e = le
highest_most n top (t ∷ ts) le e = let h = e.0 in highest_most n (max top t.reply.version) ts (omega (arith, le, h)) e.1

phase_most : (m : Meaning) (old : List Entry) (phase : List Turn) (new : List Entry) → ((s : ℕ) → Chain m old (of_session s phase) new) → Each (AtMost (length (commits_of new))) phase
phase_most m old phase new k =
    phase_each m old new (AtMost (length (commits_of new))) (λ t a b o p says. (lies_between m t old a b new o p says).1) old phase new (begins_itself old) (begins_itself new) k

abbrev Order : Meaning → (ℕ → List Turn → Type 0) → Type 0
Order m P = (top : ℕ) (old : List Entry) (ts : List Turn) (new : List Entry) → top ≤ length (commits_of old) → Chain m old ts new → P top ts

chains_order : (m : Meaning) (P : ℕ → List Turn → Type 0) → Order m P → (top : ℕ) (old : List Entry) (phases : List (List Turn)) (last : List Entry) → top ≤ length (commits_of old) → Chains m old phases last → Above P top phases
chains_order m P order top old [] last le r = tt
chains_order m P order top old (phase ∷ phases) last le r =
    let on = fewer_commits old r.0 r.1 in
    ((λ s. order top old (of_session s phase) r.0 le (r.2 s)), chains_order m P order (highest top phase) r.0 phases last (highest_most (length (commits_of r.0)) top phase (omega (arith, le, on)) (phase_most m old phase r.0 r.2)) r.3)

-- AFTER A BREAK

or_told : (x y : Bool) (P : Type 0) → (x ≡ true → P) → (y ≡ true → P) → (x || y) ≡ true → P
or_told true y P f g is = f refl
or_told false y P f g is = g is

-- a reply that tells of a break, where one is there
abbrev TellsRight : List Entry → Turn → Type 0
TellsRight new t = body_breaks t.reply.body ≡ true → has_break new ≡ true

told_right : (new : List Entry) (ts : List Turn) → Each (TellsRight new) ts → breaks ts ≡ true → has_break new ≡ true
told_right new [] e is = absurd (true≢false (sym is))
told_right new (t ∷ ts) e is = or_told (body_breaks t.reply.body) (breaks ts) (has_break new ≡ true) e.0 (told_right new ts e.1) is

phase_told : (m : Meaning) (old : List Entry) (phase : List Turn) (new : List Entry) → ((s : ℕ) → Chain m old (of_session s phase) new) → breaks phase ≡ true → has_break new ≡ true
phase_told m old phase new k =
    told_right new phase (phase_each m old new (TellsRight new) (λ t a b o p says is. break_on b new p (tells m t.job t.reply.version t.reply.body a b says.0 is)) old phase new (begins_itself old) (begins_itself new) k)

chain_stays : (m : Meaning) (last : List Entry) (told : Bool) (old : List Entry) (ts : List Turn) (new : List Entry) → IsPrefix new last → (told ≡ true → has_break old ≡ true) → Chain m old ts new → StaysBroken m (commits_of last) told ts
chain_stays m last told old [] new p seen k = tt
chain_stays m last told old (t ∷ ts) new p seen k =
    let before = says_before m t.job t.reply.version t.reply.body old k.0 k.1.0 in
    let after = begins_on k.0 new last (chain_before m k.0 ts new k.2) p in (
      (λ is. stays m t old k.0 last after k.1 (seen is)),
      chain_stays m last (told || body_breaks t.reply.body) k.0 ts new p
          (or_told told (body_breaks t.reply.body) (has_break k.0 ≡ true) (λ is. break_on old k.0 before (seen is)) (tells m t.job t.reply.version t.reply.body old k.0 k.1.0)) k.2,
    )

chains_stay : (m : Meaning) (last : List Entry) (told : Bool) (old : List Entry) (phases : List (List Turn)) → (told ≡ true → has_break old ≡ true) → Chains m old phases last → AllStayBroken m (commits_of last) told phases
chains_stay m last told old [] seen r = tt
chains_stay m last told old (phase ∷ phases) seen r = (
  (λ s. chain_stays m last told old (of_session s phase) r.0 (chains_before m r.0 phases last r.3) seen (r.2 s)),
  chains_stay m last (told || breaks phase) r.0 phases (or_told told (breaks phase) (has_break r.0 ≡ true) (λ is. break_on old r.0 r.1 (seen is)) (phase_told m old phase r.0 r.2)) r.3,
)

-- COUNTING

abbrev authors : List Entry → List ℕ
authors [] = []
authors (entry.Commit c ∷ rest) = c.author ∷ authors rest
authors (entry.Mark n v ∷ rest) = authors rest
authors (entry.Break c ∷ rest) = c.author ∷ authors rest

authors_split : (a b : List Entry) → authors (a ++ b) ≡ authors a ++ authors b
authors_split [] b = refl
authors_split (entry.Commit c ∷ a) b = ap (λ l. c.author ∷ l) (authors_split a b)
authors_split (entry.Mark n v ∷ a) b = authors_split a b
authors_split (entry.Break c ∷ a) b = ap (λ l. c.author ∷ l) (authors_split a b)

authors_count : (a : List Entry) → length (authors a) ≡ news a
authors_count [] = refl
authors_count (entry.Commit c ∷ a) = omega (arith, authors_count a)
authors_count (entry.Mark n v ∷ a) = authors_count a
authors_count (entry.Break c ∷ a) = omega (arith, authors_count a)

abbrev owner : List Entry → ℕ → ℕ
owner all k = get_or (authors all) (k - 1) 0

owned : (a : List Entry) (e : Entry) (x : ℕ) (rest all : List Entry) (k : ℕ) → authors (e ∷ rest) ≡ x ∷ authors rest → a ++ e ∷ rest ≡ all → k ≡ news a + 1 → owner all k ≡ x
owned a e x rest all k one is at =
    let place : k - 1 ≡ length (authors a) = omega (arith, authors_count a, at) in
    let list : authors all ≡ authors a ++ x ∷ authors rest = sym (ap authors is) ∙ authors_split a (e ∷ rest) ∙ ap (λ l. authors a ++ l) one in
    ap (λ l. get_or l (k - 1) 0) list ∙ ap (λ n. get_or (authors a ++ x ∷ authors rest) n 0) place ∙ get_or-append_seam (authors a) x (authors rest) 0

-- an entry that is new, of the commit that the job makes
added_step : (m : Meaning) (last : List Entry) → are_legal last ≡ true → (job : Job) (old new base : List Entry) (c : Commit) (e : Entry) → Appended old base new e → Makes m (commits_of base) job c → (p : IsPrefix new last) → news (e ∷ []) ≡ 1 → authors (e ∷ p.0) ≡ c.author ∷ authors p.0 → (news old < news new) × (length (commits_of base) + 1 ≡ news new) × (owner last (news new) ≡ job.session)
added_step m last l job old new base c e a makes p one by =
    let goes = goes_on old base new last e a p in
    let whole = unbroken base e p.0 (subst (λ es. are_legal es ≡ true) (sym goes) l) in
    let more : news new ≡ news base + 1 = ap news a.1 ∙ news_split base (e ∷ []) ∙ ap (λ n. news base + n) one in
    let low = fewer_news old base a.0 in
    (omega (arith, more, low), omega (arith, more, news_are base whole), owned base e c.author p.0 last (news new) by goes more ∙ signed standard_limits (database_of (commits_of base)) makes.0 job.session c makes.2)

says_step : (m : Meaning) (last : List Entry) → are_legal last ≡ true → (job : Job) (v : ℕ) (b : ReplyBody) (old new : List Entry) → IsPrefix new last → BodySays m job v b old new → StepOf (owner last) job.session (key_of b v) (news old) (news new)
says_step m last l job v (body.Rows r) old new p b = fewer_news old new b.0.0
says_step m last l job v (body.Refused f) old new p b = fewer_news old new b.0.0
says_step m last l job v body.Done old new p b =
    let r = added_step m last l job old new b.0 b.1 (entry.Commit b.1) b.2 b.4 p refl refl in (r.0, b.3 ∙ r.1, r.2)
says_step m last l job v body.DeviceFault old new p b =
    let r = added_step m last l job old new b.0 b.1 (entry.Break b.1) b.2 b.4 p refl refl in (r.0, ap (λ n. n + 1) b.3 ∙ r.1, r.2)
says_step m last l job v body.BrokenJournal old new p b = fewer_news old new b.0

chain_steps : (m : Meaning) (last : List Entry) → are_legal last ≡ true → (s : ℕ) (old : List Entry) (ts : List Turn) (new : List Entry) → Each (λ t. t.job.session ≡ s) ts → IsPrefix new last → Chain m old ts new → Steps (owner last) s (news old) ts (news new)
chain_steps m last l s old [] new o p k = fewer_news old new k
chain_steps m last l s old (t ∷ ts) new o p k = (
  news k.0,
  subst (λ n. StepOf (owner last) n (key_of t.reply.body t.reply.version) (news old) (news k.0)) o.0 (says_step m last l t.job t.reply.version t.reply.body old k.0 (begins_on k.0 new last (chain_before m k.0 ts new k.2) p) k.1.0),
  chain_steps m last l s k.0 ts new o.1 p k.2,
)

chains_walk : (m : Meaning) (last : List Entry) → are_legal last ≡ true → (old : List Entry) (phases : List (List Turn)) → Chains m old phases last → Walk (owner last) (news old) phases (news last)
chains_walk m last l old [] r = fewer_news old last r
chains_walk m last l old (phase ∷ phases) r =
    (news r.0, fewer_news old r.0 r.1, (λ s. chain_steps m last l s old (of_session s phase) r.0 (of_its_session s phase) (chains_before m r.0 phases last r.3) (r.2 s)), chains_walk m last l r.0 phases r.3)

once : (m : Meaning) (opening last : List Entry) (phases : List (List Turn)) → Promised m opening last phases → (k : ℕ) → news opening < k → k ≤ news last → whole_tally (hit k) phases ≡ 1
once m opening last phases p = each_once (owner last) (news opening) phases (news last) (chains_walk m last p.legal opening phases p.chains) p.count

-- two numbers that agree for each reply agree for all
abbrev Same : (Turn → ℕ) → (Turn → ℕ) → Turn → Type 0
Same f g t = f t ≡ g t

same_tally : (f g : Turn → ℕ) (ts : List Turn) → Each (Same f g) ts → tally f ts ≡ tally g ts
same_tally f g [] e = refl
same_tally f g (t ∷ ts) e = let h = e.0 in omega (arith, h, same_tally f g ts e.1)

same_whole : (f g : Turn → ℕ) (phases : List (List Turn)) → EachOfAll (Same f g) phases → whole_tally f phases ≡ whole_tally g phases
same_whole f g [] e = refl
same_whole f g (phase ∷ phases) e = omega (arith, same_tally f g phase e.0, same_whole f g phases e.1)

-- a fault of the device is at the last version, so no commit's number is its key
done_hit : (m : Meaning) (all : List Commit) (broke : Option Commit) (v : ℕ) → v ≤ length all → (job : Job) (line w : ℕ) (b : ReplyBody) → DeviceRight m all broke (record { job = job; reply = record { line = line; version = w; body = b } }) → done_with v b w ≡ hit_of v (key_of b w)
done_hit m all broke v le job line w (body.Rows r) right = refl
done_hit m all broke v le job line w (body.Refused f) right = refl
done_hit m all broke v le job line w body.Done right = refl
done_hit m all broke v le job line w body.DeviceFault right = let is = (right refl).0 in sym (miss v (w + 1) (λ e. omega (arith, is, e, le)))
done_hit m all broke v le job line w body.BrokenJournal right = refl

device_hit : (m : Meaning) (all : List Commit) (broke : Option Commit) (job : Job) (line w : ℕ) (b : ReplyBody) → w ≤ length all → DeviceRight m all broke (record { job = job; reply = record { line = line; version = w; body = b } }) → body_device b ≡ hit_of (length all + 1) (key_of b w)
device_hit m all broke job line w (body.Rows r) le right = refl
device_hit m all broke job line w (body.Refused f) le right = refl
device_hit m all broke job line w body.Done le right = sym (miss (length all + 1) w (λ e. omega (arith, e, le)))
device_hit m all broke job line w body.DeviceFault le right = let is = (right refl).0 in let e : (w + 1 == length all + 1) ≡ true = grind (arith, nat_tests, is) in rw e refl
device_hit m all broke job line w body.BrokenJournal le right = refl

one_done : (m : Meaning) (opening last : List Entry) (phases : List (List Turn)) → Promised m opening last phases → OneDone (length (commits_of opening)) (length (commits_of last)) phases
one_done m opening last phases p v lo hi =
    let agree = each_right m opening last (Same (done_at v) (hit v)) (λ t old new o q says. done_hit m (commits_of last) (break_of last) v hi t.job t.reply.line t.reply.version t.reply.body (device_right m t old new last p.legal q says)) phases p in
    same_whole (done_at v) (hit v) phases agree ∙ once m opening last phases p v (omega (arith, news_are opening p.whole, lo)) (omega (arith, news_count last p.legal, hi))

untold : (b : Bool) → (b ≡ true → ⊥) → b ≡ false
untold true f = absurd (f refl)
untold false f = refl

one_device : (m : Meaning) (opening last : List Entry) (phases : List (List Turn)) → Promised m opening last phases → (o : Option Commit) → break_of last ≡ o → OneDevice o phases
one_device m opening last phases p None none =
    each_right m opening last (λ t. body_breaks t.reply.body ≡ false)
    (λ t old new o q says. untold (body_breaks t.reply.body) (λ is. let there = break_there_on new last q (tells m t.job t.reply.version t.reply.body old new says.0 is) in none-some there.0 (sym none ∙ there.1)))
    phases p
one_device m opening last phases p (Some c) there =
    let size = length (commits_of last) + 1 in
    let agree = each_right m opening last (Same device (hit size))
    (λ t old new o q says. device_hit m (commits_of last) (break_of last) t.job t.reply.line t.reply.version t.reply.body (lies_between m t opening old new last o q says).1 (device_right m t old new last p.legal q says))
    phases p in
    let one : news last ≡ length (commits_of last) + 1 = news_count last p.legal ∙ ap (λ x. length (commits_of last) + one_for x) there in
    let fewer = fewer_commits opening last (chains_before m opening phases last p.chains) in
    same_whole device (hit size) phases agree ∙ once m opening last phases p size (omega (arith, news_are opening p.whole, fewer)) (omega (arith, one))

pub is_transcript : (m : Meaning) (opening last : List Entry) (phases : List (List Turn)) → Promised m opening last phases → Transcript m (commits_of opening) (commits_of last) (break_of last) phases
is_transcript m opening last phases p = record {
  lines = each_right m opening last OwnLine (λ t old new o q says. says.1) phases p;
  rows = each_right m opening last (RowsRight m (commits_of last)) (λ t old new o q says. rows_right m t old new last q says) phases p;
  refused = each_right m opening last (RefusedRight m (commits_of last)) (λ t old new o q says. refused_right m t old new last q says) phases p;
  done = each_right m opening last (DoneRight m (commits_of last) (length (commits_of opening))) (λ t old new o q says. done_right m t opening old new last o q says) phases p;
  device_fault = each_right m opening last (DeviceRight m (commits_of last) (break_of last)) (λ t old new o q says. device_right m t old new last p.legal q says) phases p;
  broken = each_right m opening last (BrokenRight m (commits_of last) (break_of last)) (λ t old new o q says. broken_right m t old new last p.legal q says) phases p;
  between = each_right m opening last (Between (length (commits_of opening)) (length (commits_of last))) (λ t old new o q says. lies_between m t opening old new last o q says) phases p;
  never_fall = chains_order m NeverFalls (never_falls m) (length (commits_of opening)) opening phases last (omega arith) p.chains;
  done_rises = chains_order m DoneRises (done_rises m) (length (commits_of opening)) opening phases last (omega arith) p.chains;
  one_done = one_done m opening last phases p;
  one_device = one_device m opening last phases p (break_of last) refl;
  stays_broken = chains_stay m last false opening phases (λ is. absurd (true≢false (sym is))) p.chains;
}
