-- What is told of a plan behind the replies of a play, while more commits and names come.
use Rattle.std.proofs.Common.{◌≡◌, Bool, true, false, ℕ, zero, suc, ◌≤◌, List, [], ◌∷◌, ◌++◌, length, take, Option, Some, None, refl, sym, ap, ◌∙◌, arith, append_assoc, append-nil, length-append}
use Rattle.tl_types.specs.declared.commits.Commit.{Commit}
use Rattle.tl_script.specs.Reader.{Grows}
use Rattle.tl_jobs.specs.declared.replies.ReplyBody.{ReplyBody}
use Rattle.tl_jobs.specs.declared.replies.ReplyBody.TheVariants as body
use Rattle.tl_jobs.specs.Jobs.{Job}
use Rattle.tl_jobs.specs.Play.{Acts, IsPlay}
use Rattle.tl_jobs.specs.Turns.{Turn, Meaning, Each, meant}
use Rattle.tl_jobs.specs.Written.{jobs_of, turn_bytes, turns_bytes}
use Rattle.tl_watch.specs.declared.plans.WatchPlan.{WatchPlan}
use Rattle.tl_watch.specs.Watches.{Watch, StandsForCommits}
use Rattle.tl_commands.specs.WatchRows.{watch_bytes}
use Rattle.tl_commands.specs.Watches.{WatchesPlan}
use Rattle.tl_command.proofs.BytesLemmas.{Inside, same_turns}
use Rattle.tl_commands.specs.Refusing.{GoOn}
use Rattle.tl_commands.specs.Telling.{IsPlayBy, IsPlayTold, IsWatched, WatchesFor, told_behind, told_bytes, told_turn}

-- THE WATCH

-- a watch of some plan stands for the commits
pub watch_stands : (commits : List Commit) (watch : Watch) → IsWatched commits (Some watch) → StandsForCommits watch commits
watch_stands commits watch (None, h) = absurd h
watch_stands commits watch (Some plan, h) = h.1

-- where nothing is watched nothing is after more commits
pub watches_none : (plan : Option WatchPlan) (commits more : List Commit) → WatchesFor plan commits None → WatchesFor plan more None
watches_none None commits more h = tt
watches_none (Some plan) commits more h = absurd h

-- a watch that follows does so for its plan
pub watches_on : (plan : Option WatchPlan) (commits more : List Commit) (old new : Watch) → ((p : WatchPlan) → WatchesPlan p commits old → WatchesPlan p more new) → WatchesFor plan commits (Some old) → WatchesFor plan more (Some new)
watches_on None commits more old new follows h = absurd h
watches_on (Some plan) commits more old new follows h = follows plan h

-- FIRST ONES OF MORE COMMITS

take_front : {A : Type 0} (n : ℕ) (xs ys : List A) → n ≤ length xs → take n (xs ++ ys) ≡ take n xs
take_front zero xs ys le = refl
take_front (suc n) [] ys le = absurd (omega (arith, le))
take_front (suc n) (x ∷ xs) ys le = ap (λ zs. x ∷ zs) (take_front n xs ys (omega (arith, le)))

take_all : {A : Type 0} (xs : List A) → take (length xs) xs ≡ xs
take_all [] = refl
take_all (x ∷ xs) = ap (λ zs. x ∷ zs) (take_all xs)

-- WHAT A PLAY ADDS

-- an act appends, and names no version behind its last commit
acts_on : (m : Meaning) (job : Job) (v : ℕ) (told : ReplyBody) (old new : List Commit) → Acts m job v told old new → (more : List Commit) × (new ≡ old ++ more) × (v ≤ length new)
acts_on m job v (body.Rows answer) old new (version, reads, same) = ([], same ∙ sym (append-nil old), omega (arith, version, ap length same))
acts_on m job v (body.Refused f) old new (version, fails, same) = ([], same ∙ sym (append-nil old), omega (arith, version, ap length same))
acts_on m job v body.Done old new (c, version, makes, is) = (c ∷ [], is, omega (arith, version, ap length is, length-append old (c ∷ [])))
acts_on m job v body.DeviceFault old new h = absurd h
acts_on m job v body.BrokenJournal old new h = absurd h

-- a play appends
pub play_adds : (m : Meaning) (old all : List Commit) (ts : List Turn) → IsPlay m old ts all → (more : List Commit) × (all ≡ old ++ more)
play_adds m old all [] h = ([], h ∙ sym (append-nil old))
play_adds m old all (t ∷ ts) (mid, acts, line, rest) =
    let one = acts_on m t.job t.reply.version t.reply.body old mid acts in
    let more = play_adds m mid all ts rest in
    (one.0 ++ more.0, more.1 ∙ (ap (λ cs. cs ++ more.0) one.1 ∙ append_assoc old one.0 more.0))

-- the version of the turn is one of so many commits
abbrev pub AtMost : ℕ → Turn → Type 0
AtMost n t = t.reply.version ≤ n

-- no reply of a play names a version behind its last commit
pub play_within : (m : Meaning) (old all : List Commit) (ts : List Turn) → IsPlay m old ts all → Each (AtMost (length all)) ts
play_within m old all [] h = tt
play_within m old all (t ∷ ts) (mid, acts, line, rest) =
    let one = acts_on m t.job t.reply.version t.reply.body old mid acts in
    let more = play_adds m mid all ts rest in
    (omega (arith, one.2, ap length more.1, length-append mid more.0), play_within m mid all ts rest)

-- WHAT IS TOLD

-- nothing is told where nothing is watched
pub value_none : (plan : Option WatchPlan) (told : ReplyBody) (commits : List Commit) (text : List ℕ) → WatchesFor plan commits None → text ≡ text ++ told_behind plan told commits
value_none None told commits text h = sym (append-nil text)
value_none (Some plan) told commits text h = absurd h

-- nor behind a reply that is not done
pub value_other : (plan : Option WatchPlan) (told : ReplyBody) (commits : List Commit) (text : List ℕ) → (told ≡ body.Done → ⊥) → text ≡ text ++ told_behind plan told commits
value_other None told commits text other = sym (append-nil text)
value_other (Some plan) body.Done commits text other = absurd (other refl)
value_other (Some plan) (body.Rows answer) commits text other = sym (append-nil text)
value_other (Some plan) (body.Refused f) commits text other = sym (append-nil text)
value_other (Some plan) body.DeviceFault commits text other = sym (append-nil text)
value_other (Some plan) body.BrokenJournal commits text other = sym (append-nil text)

-- behind one that is done the value of the plan is
pub value_done : (plan : Option WatchPlan) (commits : List Commit) (watch : Watch) (old new : List ℕ) → ((p : WatchPlan) → WatchesPlan p commits watch → new ≡ old ++ watch_bytes p commits) → WatchesFor plan commits (Some watch) → new ≡ old ++ told_behind plan body.Done commits
value_done None commits watch old new tells h = absurd h
value_done (Some plan) commits watch old new tells h = tells plan h

-- without a plan the replies stand alone
pub told_none : (names : List (List ℕ)) (all : List Commit) (ts : List Turn) → told_bytes None names all ts ≡ turns_bytes names ts
told_none names all [] = refl
told_none names all (t ∷ ts) = ap (λ b. b ++ told_bytes None names all ts) (append-nil (turn_bytes names t)) ∙ ap (λ b. turn_bytes names t ++ b) (told_none names all ts)

-- what is told of turns and of further ones
pub told_on : (plan : Option WatchPlan) (names : List (List ℕ)) (all : List Commit) (xs ys : List Turn) → told_bytes plan names all (xs ++ ys) ≡ told_bytes plan names all xs ++ told_bytes plan names all ys
told_on plan names all [] ys = refl
told_on plan names all (t ∷ ts) ys = ap (λ b. told_turn plan names all t ++ b) (told_on plan names all ts ys) ∙ sym (append_assoc (told_turn plan names all t) (told_bytes plan names all ts) (told_bytes plan names all ys))

-- a turn is spelled as before where more names come
same_turn : (old new : List (List ℕ)) (t : Turn) → Grows old new → Inside (length old) t → turn_bytes old t ≡ turn_bytes new t
same_turn old new t g inside = sym (append-nil (turn_bytes old t)) ∙ (same_turns old new (t ∷ []) g (inside, tt) ∙ append-nil (turn_bytes new t))

-- what was told stays where more names and commits come
pub told_more : (plan : Option WatchPlan) (old new : List (List ℕ)) (all more : List Commit) (ts : List Turn) → Grows old new → Each (Inside (length old)) ts → Each (AtMost (length all)) ts → told_bytes plan old all ts ≡ told_bytes plan new (all ++ more) ts
told_more plan old new all more [] g inside within = refl
told_more plan old new all more (t ∷ ts) g inside within =
    let behind : told_behind plan t.reply.body (take t.reply.version all) ≡ told_behind plan t.reply.body (take t.reply.version (all ++ more)) = ap (told_behind plan t.reply.body) (sym (take_front t.reply.version all more within.0)) in
    ap (λ b. (b ++ told_behind plan t.reply.body (take t.reply.version all)) ++ told_bytes plan old all ts) (same_turn old new t g inside.0)
    ∙ (ap (λ b. (turn_bytes new t ++ b) ++ told_bytes plan old all ts) behind
    ∙ ap (λ b. told_turn plan new (all ++ more) t ++ b) (told_more plan old new all more ts g inside.1 within.1))

-- the same where the names stay
pub told_later : (plan : Option WatchPlan) (names : List (List ℕ)) (all more : List Commit) (ts : List Turn) → Each (AtMost (length all)) ts → told_bytes plan names all ts ≡ told_bytes plan names (all ++ more) ts
told_later plan names all more [] within = refl
told_later plan names all more (t ∷ ts) within =
    let behind : told_behind plan t.reply.body (take t.reply.version all) ≡ told_behind plan t.reply.body (take t.reply.version (all ++ more)) = ap (told_behind plan t.reply.body) (sym (take_front t.reply.version all more within.0)) in
    ap (λ b. (turn_bytes names t ++ b) ++ told_bytes plan names all ts) behind
    ∙ ap (λ b. told_turn plan names (all ++ more) t ++ b) (told_later plan names all more ts within.1)

-- a reply is told over the commits that are there behind its job
pub told_now : (plan : Option WatchPlan) (m : Meaning) (job : Job) (v : ℕ) (told : ReplyBody) (old new : List Commit) → Acts m job v told old new → told_behind plan told (take v new) ≡ told_behind plan told new
told_now None m job v told old new acts = refl
told_now (Some plan) m job v (body.Rows answer) old new acts = refl
told_now (Some plan) m job v (body.Refused f) old new acts = refl
told_now (Some plan) m job v body.Done old new (c, version, makes, is) =
    let all : v ≡ length new = omega (arith, version, ap length is, length-append old (c ∷ [])) in
    ap (λ n. told_behind (Some plan) body.Done (take n new)) all ∙ ap (told_behind (Some plan) body.Done) (take_all new)
told_now (Some plan) m job v body.DeviceFault old new acts = absurd acts
told_now (Some plan) m job v body.BrokenJournal old new acts = absurd acts

-- the text of a play
pub play_told : (plan : Option WatchPlan) (names : List (List ℕ)) (jobs : List Job) (opening all : List Commit) (text : List ℕ) (turns : List Turn) → jobs_of turns ≡ jobs → IsPlay meant opening turns all → text ≡ told_bytes plan names all turns → IsPlayTold plan names jobs opening all text
play_told None names jobs opening all text turns these play written = (turns, these, play, written ∙ told_none names all turns)
play_told (Some plan) names jobs opening all text turns these play written = (turns, these, play, written)

-- the same of a play that a refusal ends or not, in which none came that does
pub play_by : (stops : Bool) (plan : Option WatchPlan) (names : List (List ℕ)) (jobs : List Job) (opening all : List Commit) (text : List ℕ) (turns : List Turn) → jobs_of turns ≡ jobs → IsPlay meant opening turns all → GoOn stops turns → text ≡ told_bytes plan names all turns → IsPlayBy stops plan names jobs opening all text
play_by false plan names jobs opening all text turns these play goes_on written = play_told plan names jobs opening all text turns these play written
play_by true plan names jobs opening all text turns these play goes_on written = (turns, these, play, goes_on, written)
