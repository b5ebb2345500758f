-- A transcript of phases of one session each, without a break, is a play.
use Rattle.std.proofs.Common.{◌≡◌, ◌≢◌, ◌⊎◌, inl, inr, ℕ, ◌+◌, ◌<◌, ◌≤◌, ◌==◌, max, true, false, true≢false, List, [], ◌∷◌, ◌++◌, length, take, slice_get, length-take-le, None, refl, sym, ap, ◌∙◌, subst, arith}
use Rattle.std.proofs.lemmas.Bool.{cases_lt}
use Rattle.std.proofs.lemmas.Bool.Decides.{nat_tests}
use Rattle.std.proofs.lemmas.List.{take_all}
use Rattle.tl_types.specs.declared.commits.Entry.{Entry}
use Rattle.tl_types.specs.declared.commits.Commit.{Commit}
use Rattle.tl_types.specs.Entries.{commits_of}
use Rattle.tl_jobs.specs.declared.readings.JobReading.TheVariants.{Query}
use Rattle.tl_jobs.specs.declared.replies.ReplyBody.{ReplyBody}
use Rattle.tl_jobs.specs.declared.replies.ReplyBody.TheVariants as body
use Rattle.tl_jobs.specs.Turns.{break_of, Turn, Meaning, HasFault, Makes, of_session, all_turns, Each, EachOfAll}
use Rattle.tl_session.specs.Promises.{Promised, tally, whole_tally}
use Rattle.tl_session.specs.Transcript.{OwnLine, RowsRight, RefusedRight, DoneRight, Between, NeverFalls, DoneRises, Above, highest, done_at, done_with, body_breaks, Transcript}
use Rattle.tl_jobs.specs.Play.{Acts, IsPlay, AreLone}
use Rattle.tl_session.proofs.ChainLemmas.{tally_on}
use Rattle.tl_session.proofs.CountingLemmas.{miss}
use Rattle.tl_session.proofs.EntryLemmas.{fewer_commits, whole_front}
use Rattle.tl_session.proofs.ListLemmas.{take_next}
use Rattle.tl_session.proofs.TranscriptLemmas.{is_transcript, chains_before}

-- FROM PHASES TO ONE LIST

each_on : (P : Turn → Type 0) (xs ys : List Turn) → Each P xs → Each P ys → Each P (xs ++ ys)
each_on P [] ys e f = f
each_on P (t ∷ xs) ys e f = (e.0, each_on P xs ys e.1 f)

each_turn : (P : Turn → Type 0) (phases : List (List Turn)) → EachOfAll P phases → Each P (all_turns phases)
each_turn P [] e = tt
each_turn P (phase ∷ phases) e = each_on P phase (all_turns phases) e.0 (each_turn P phases e.1)

whole_is : (f : Turn → ℕ) (phases : List (List Turn)) → tally f (all_turns phases) ≡ whole_tally f phases
whole_is f [] = refl
whole_is f (phase ∷ phases) = omega (arith, tally_on f phase (all_turns phases), whole_is f phases)

lone_all : (s : ℕ) (ts : List Turn) → Each (λ t. t.job.session ≡ s) ts → of_session s ts ≡ ts
lone_all s [] e = refl
lone_all s (t ∷ ts) e =
    let same = e.0 in
    let is : (t.job.session == s) ≡ true = grind (arith, nat_tests) in
    rw is (ap (λ l. t ∷ l) (lone_all s ts e.1))

-- versions never fall, and rise where a batch is done
abbrev Climbs : ℕ → List Turn → ℕ → Type 0
Climbs v [] z = v ≡ z
Climbs v (t ∷ ts) z = (v ≤ t.reply.version) × (t.reply.body ≡ body.Done → v < t.reply.version) × Climbs t.reply.version ts z

climbs_on : (v : ℕ) (xs : List Turn) (y : ℕ) (ys : List Turn) (z : ℕ) → Climbs v xs y → Climbs y ys z → Climbs v (xs ++ ys) z
climbs_on v [] y ys z c d = subst (λ n. Climbs n ys z) (sym c) d
climbs_on v (t ∷ xs) y ys z c d = (c.0, c.1, climbs_on t.reply.version xs y ys z c.2 d)

climbs_session : (u v : ℕ) (ts : List Turn) → u ≡ v → NeverFalls v ts → DoneRises u ts → Climbs v ts (highest u ts)
climbs_session u v [] e n d = sym e
climbs_session u v (t ∷ ts) e n d = let le = n.0 in
    (n.0, (λ is. let lt = d.0 is in omega (arith, lt, e)), climbs_session (max u t.reply.version) t.reply.version ts (omega (arith, e, le)) n.1 d.1)

climbs_whole : (top : ℕ) (phases : List (List Turn)) → AreLone phases → Above NeverFalls top phases → Above DoneRises top phases → (z : ℕ) × Climbs top (all_turns phases) z
climbs_whole top [] lone n d = (top, refl)
climbs_whole top (phase ∷ phases) lone n d =
    let s = lone.0.0 in
    let own = lone_all s phase lone.0.1 in
    let here = climbs_session top top phase refl (subst (NeverFalls top) own (n.0 s)) (subst (DoneRises top) own (d.0 s)) in
    let r = climbs_whole (highest top phase) phases lone.1 n.1 d.1 in
    (r.0, climbs_on top phase (highest top phase) (all_turns phases) r.0 here r.1)

-- ONE AFTER THE OTHER

not_at : (k : ℕ) (b : ReplyBody) (v w : ℕ) → v ≤ w → (b ≡ body.Done → v < w) → k ≤ v → done_with k b w ≡ 0
not_at k (body.Rows r) v w le lt out = refl
not_at k (body.Refused f) v w le lt out = refl
not_at k body.Done v w le lt out = let l = lt refl in miss k w (λ e. omega (arith, l, e, out))
not_at k body.DeviceFault v w le lt out = refl
not_at k body.BrokenJournal v w le lt out = refl

never_at : (k : ℕ) (b : ReplyBody) (w : ℕ) → w ≢ k → done_with k b w ≡ 0
never_at k (body.Rows r) w out = refl
never_at k (body.Refused f) w out = refl
never_at k body.Done w out = miss k w out
never_at k body.DeviceFault w out = refl
never_at k body.BrokenJournal w out = refl

-- no batch done below comes later
climbs_low : (v : ℕ) (ts : List Turn) (z k : ℕ) → Climbs v ts z → k ≤ v → tally (done_at k) ts ≡ 0
climbs_low v [] z k c le = refl
climbs_low v (t ∷ ts) z k c le = let up = c.0 in
    omega (arith, not_at k t.reply.body v t.reply.version c.0 c.1 le, climbs_low t.reply.version ts z k c.2 (omega (arith, up, le)))

-- each version above v up to the end has its batch among these
abbrev Left : ℕ → ℕ → List Turn → Type 0
Left v end ts = (k : ℕ) → v < k → k ≤ end → tally (done_at k) ts ≡ 1

-- how far a reply takes the version
abbrev advance : ReplyBody → ℕ
advance (body.Rows r) = 0
advance (body.Refused f) = 0
advance body.Done = 1
advance body.DeviceFault = 0
advance body.BrokenJournal = 0

head_none : (v : ℕ) (b : ReplyBody) (w : ℕ) → v + advance b < w → done_with (v + 1) b w ≡ 0
head_none v (body.Rows r) w lt = refl
head_none v (body.Refused f) w lt = refl
head_none v body.Done w lt = miss (v + 1) w (λ e. omega (arith, e, lt))
head_none v body.DeviceFault w lt = refl
head_none v body.BrokenJournal w lt = refl

at_least : (v : ℕ) (b : ReplyBody) (w : ℕ) → v ≤ w → (b ≡ body.Done → v < w) → v + advance b ≤ w
at_least v (body.Rows r) w le lt = omega (arith, le)
at_least v (body.Refused f) w le lt = omega (arith, le)
at_least v body.Done w le lt = let l = lt refl in omega (arith, l)
at_least v body.DeviceFault w le lt = omega (arith, le)
at_least v body.BrokenJournal w le lt = omega (arith, le)

-- the version is the next one after a batch that is done, and else the same
exact : (v end : ℕ) (t : Turn) (ts : List Turn) (z : ℕ) → Climbs v (t ∷ ts) z → t.reply.version ≤ end → Left v end (t ∷ ts) → t.reply.version ≡ v + advance t.reply.body
exact v end t ts z c top left = by_case (cases_lt (v + advance t.reply.body) t.reply.version) where
  by_case : (v + advance t.reply.body < t.reply.version) ⊎ (t.reply.version ≤ v + advance t.reply.body) → t.reply.version ≡ v + advance t.reply.body
  by_case (inl more) =
      let one = left (v + 1) (omega arith) (omega (arith, more, top)) in
      absurd (omega (arith, one, head_none v t.reply.body t.reply.version more, climbs_low t.reply.version ts z (v + 1) c.2 (omega (arith, more))))
  by_case (inr le) = omega (arith, le, at_least v t.reply.body t.reply.version c.0 c.1)

left_on : (v end : ℕ) (t : Turn) (ts : List Turn) → v ≤ t.reply.version → Left v end (t ∷ ts) → Left t.reply.version end ts
left_on v end t ts le left k lo hi = let one = left k (omega (arith, le, lo)) hi in omega (arith, one, never_at k t.reply.body t.reply.version (λ e. omega (arith, e, lo)))

-- what is known of each turn
abbrev Known : Meaning → List Commit → ℕ → Turn → Type 0
Known m all opened t = RowsRight m all t × RefusedRight m all t × DoneRight m all opened t × Between opened (length all) t × (body_breaks t.reply.body ≡ false) × OwnLine t

acts : (m : Meaning) (all : List Commit) (opened : ℕ) (t : Turn) (v : ℕ) → v ≤ length all → Known m all opened t → t.reply.version ≡ v + advance t.reply.body → Acts m t.job t.reply.version t.reply.body (take v all) (take t.reply.version all)
acts m all opened t v le known at = by_body t.reply.body refl at where
  by_body : (b : ReplyBody) → t.reply.body ≡ b → t.reply.version ≡ v + advance b → Acts m t.job t.reply.version b (take v all) (take t.reply.version all)
  by_body (body.Rows r) is e =
      let same : t.reply.version ≡ v = omega (arith, e) in
      (omega (arith, same, length-take-le v all le), subst (λ n. m.reads (take n all) t.job (Query r)) same (known.0 r is), ap (λ n. take n all) same)
  by_body (body.Refused f) is e =
      let same : t.reply.version ≡ v = omega (arith, e) in
      (omega (arith, same, length-take-le v all le), subst (λ n. HasFault m (take n all) t.job f) same (known.1 f is), ap (λ n. take n all) same)
  by_body body.Done is e =
      let d = known.2 is in let below = d.1 in
      let same : d.0 ≡ v = omega (arith, e, below) in
      let next : t.reply.version ≡ v + 1 = omega (arith, e) in
      (d.3, omega (arith, e, length-take-le v all le), subst (λ n. Makes m (take n all) t.job d.3) same d.5, ap (λ n. take n all) next ∙ take_next all v d.3 (ap (slice_get all) (sym same) ∙ d.4))
  by_body body.DeviceFault is e = absurd (true≢false (ap body_breaks (sym is) ∙ known.4))
  by_body body.BrokenJournal is e = absurd (true≢false (ap body_breaks (sym is) ∙ known.4))

plays : (m : Meaning) (all : List Commit) (opened v : ℕ) (ts : List Turn) (z : ℕ) → v ≤ length all → Each (Known m all opened) ts → Climbs v ts z → Left v (length all) ts → IsPlay m (take v all) ts all
plays m all opened v [] z le known c left = sym (take_all v all (by_case (cases_lt v (length all)))) where
  by_case : (v < length all) ⊎ (length all ≤ v) → length all ≤ v
  by_case (inl more) = let one = left (v + 1) (omega arith) (omega (arith, more)) in absurd (omega (arith, one))
  by_case (inr done) = done
plays m all opened v (t ∷ ts) z le known c left =
    let top = known.0.3.1 in (
      take t.reply.version all,
      acts m all opened t v le known.0 (exact v (length all) t ts z c top left),
      known.0.5,
      plays m all opened t.reply.version ts z top known.1 c.2 (left_on v (length all) t ts c.0 left),
    )

all_known : (m : Meaning) (all : List Commit) (opened : ℕ) (ts : List Turn) → Each (RowsRight m all) ts → Each (RefusedRight m all) ts → Each (DoneRight m all opened) ts → Each (Between opened (length all)) ts → Each (λ t. body_breaks t.reply.body ≡ false) ts → Each OwnLine ts → Each (Known m all opened) ts
all_known m all opened [] a b c d e f = tt
all_known m all opened (t ∷ ts) a b c d e f = ((a.0, b.0, c.0, d.0, e.0, f.0), all_known m all opened ts a.1 b.1 c.1 d.1 e.1 f.1)

is_play : (m : Meaning) (old all : List Commit) (phases : List (List Turn)) → length old ≤ length all → take (length old) all ≡ old → AreLone phases → Transcript m old all None phases → IsPlay m old (all_turns phases) all
is_play m old all phases le front lone t =
    let c = climbs_whole (length old) phases lone t.never_fall t.done_rises in
    let known = all_known m all (length old) (all_turns phases) (each_turn (RowsRight m all) phases t.rows) (each_turn (RefusedRight m all) phases t.refused) (each_turn (DoneRight m all (length old)) phases t.done) (each_turn (Between (length old) (length all)) phases t.between) (each_turn (λ u. body_breaks u.reply.body ≡ false) phases t.one_device) (each_turn OwnLine phases t.lines) in
    subst (λ l. IsPlay m l (all_turns phases) all) front (plays m all (length old) (length old) (all_turns phases) c.0 le known c.1 (λ k lo hi. whole_is (done_at k) phases ∙ t.one_done k lo hi))

pub promised_play : (m : Meaning) (opening last : List Entry) (phases : List (List Turn)) → Promised m opening last phases → break_of last ≡ None → AreLone phases → IsPlay m (commits_of opening) (all_turns phases) (commits_of last)
promised_play m opening last phases p none lone =
    let before = chains_before m opening phases last p.chains in
    is_play m (commits_of opening) (commits_of last) phases (fewer_commits opening last before) (whole_front opening last before) lone
    (subst (λ o. Transcript m (commits_of opening) (commits_of last) o phases) none (is_transcript m opening last phases p))
