-- Sessions by their places, and what they share.
use Rattle.std.proofs.Common.{◌≡◌, ◌⊎◌, inl, inr, ℕ, zero, suc, ◌+◌, ◌<◌, ◌≤◌, Bool, false, List, [], ◌∷◌, ◌++◌, length, map, take, drop, All, Vec, Result, Ok, Err, IfOk, OnOk, slice_get, slice_index_or, Option, Some, None, option_to_list, length-append, refl, sym, ap, ◌∙◌, subst, arith}
use Rattle.std.proofs.lemmas.Bool.{cases_lt}
use Rattle.std.proofs.lemmas.Bool.Decides.{nat_tests}
use Rattle.std.proofs.lemmas.List.{get_or_default}
use Rattle.std.proofs.Math.Seq.{take-append_seam}
use mathlib.Core.List.{IsPrefix}
use Rattle.tl_types.specs.declared.commits.Entry.{Entry}
use Rattle.tl_jobs.specs.declared.replies.Reply.{Reply}
use Rattle.std.specs.declared.alloc.AllocError.{AllocError}
use Rattle.std.specs.declared.alloc.Global.{Global}
use Rattle.tl_jobs.specs.declared.jobs.LentJob.{LentJob}
use Rattle.tl_jobs.specs.Jobs.{Job, job_of}
use Rattle.tl_session.specs.Plain as plain
use Rattle.tl_session.specs.Phases.{Runs, AllRan, AllTendOn, TakesTurns, RunsPhase, RunsFronts, own_jobs, replies_of, parts_of, amounts_of, AllSeenIn, IsFresh, AllFresh, NoneRanOut, HaveReplies, KeepAll}
use Rattle.tl_session.specs.Tending.{WasTended, WereTended}
use Rattle.tl_jobs.specs.Turns.{Each, Turn, meant, of_session}
use Rattle.tl_session.specs.Promises.{Chain, tally, weight}
use Rattle.tl_jobs.specs.Written.{jobs_of}
use Rattle.tl_session.proofs.EntryLemmas.{begins_itself}
use Rattle.tl_session.proofs.ChainLemmas.{chain_to}
use Rattle.tl_session.proofs.PhaseLemmas.{Together, put_together, from_on, tally_from, are_below}
use Rattle.tl_session.proofs.SessionLemmas.{each_of_sessions, own_other}
use Rattle.tl_session.proofs.TendedLemmas.{each_reply, each_turn, were_later}

-- ONE SESSION MORE, AND ONE LESS

pub parts_more : (xs : List plain.Session) (x : plain.Session) → parts_of (xs ++ x ∷ []) ≡ parts_of xs + x.access.parts
parts_more [] x = omega arith
parts_more (y ∷ xs) x = omega (arith, parts_more xs x)

pub amounts_more : (xs : List plain.Session) (x : plain.Session) → amounts_of (xs ++ x ∷ []) ≡ amounts_of xs + x.access.amount
amounts_more [] x = omega arith
amounts_more (y ∷ xs) x = omega (arith, amounts_more xs x)

pub seen_more : (all : List Entry) (xs : List plain.Session) (x : plain.Session) → AllSeenIn all xs → IsPrefix x.access.seen all → AllSeenIn all (xs ++ x ∷ [])
seen_more all [] x a p = (p, tt)
seen_more all (y ∷ xs) x a p = (a.0, seen_more all xs x a.1 p)

-- what a session has seen begins what all have
pub seen_at : (all : List Entry) (xs : List plain.Session) (i : ℕ) (d : plain.Session) → i < length xs → AllSeenIn all xs → IsPrefix (slice_index_or xs i d).access.seen all
seen_at all [] i d inside a = absurd (omega (arith, inside))
seen_at all (x ∷ xs) zero d inside a = a.0
seen_at all (x ∷ xs) (suc i) d inside a = seen_at all xs i d (omega (arith, inside)) a.1

pub fresh_more : (seen : List Entry) (xs : List plain.Session) (x : plain.Session) → AllFresh seen xs → IsFresh seen x → x.access.author ≡ length xs → AllFresh seen (xs ++ x ∷ [])
fresh_more seen xs x all fresh author i d inside = let r = at xs 0 (λ j e within. let h = all j e within in (h.0, omega (arith, h.1))) (omega (arith, author)) i d inside in (r.0, omega (arith, r.1)) where
  at : (ys : List plain.Session) (k : ℕ) → ((j : ℕ) (e : plain.Session) → j < length ys → IsFresh seen (slice_index_or ys j e) × ((slice_index_or ys j e).access.author ≡ k + j)) → x.access.author ≡ k + length ys → (i : ℕ) (d : plain.Session) → i < length (ys ++ x ∷ []) → IsFresh seen (slice_index_or (ys ++ x ∷ []) i d) × ((slice_index_or (ys ++ x ∷ []) i d).access.author ≡ k + i)
  at [] k each is zero d inside = (fresh, is)
  at [] k each is (suc i) d inside = absurd (omega (arith, inside))
  at (y ∷ ys) k each is zero d inside = each 0 d (omega arith)
  at (y ∷ ys) k each is (suc i) d inside =
      let rest = at ys (k + 1) (λ j e within. let h = each (suc j) e (omega (arith, within)) in (h.0, omega (arith, h.1))) (omega (arith, is)) i d (omega (arith, inside)) in
      (rest.0, omega (arith, rest.1))

-- the last session leaves
pub one_left : (xs ys : List plain.Session) (x : plain.Session) (o : Option plain.Session) → xs ≡ ys ++ option_to_list o → o ≡ Some x → xs ≡ ys ++ x ∷ []
one_left xs ys x o popped is = popped ∙ ap (λ z. ys ++ option_to_list z) is

-- all sessions are taken in
pub all_taken_in : (now first : List Entry) (xs all : List plain.Session) → xs ≡ [] → ((end : List Entry) → IsPrefix now end → AllSeenIn end xs → IsPrefix first end × AllSeenIn end all) → IsPrefix first now × AllSeenIn now all
all_taken_in now first xs all none taken = taken now (begins_itself now) (subst (AllSeenIn now) (sym none) tt)

pub fresh_pushed : (seen : List Entry) (xs ys : List plain.Session) (x : plain.Session) → ys ≡ xs ++ x ∷ [] → AllFresh seen xs → x.access.seen ≡ seen → x.access.amount ≡ 0 → x.replies ≡ [] → x.ran_out ≡ false → x.access.author ≡ length xs → AllFresh seen ys
fresh_pushed seen xs ys x is all a b c d author = subst (AllFresh seen) (sym is) (fresh_more seen xs x all (record { seen_is = a; amount_is = b; replies_are = c; whole = d }) author)

pub parts_pushed : (xs ys : List plain.Session) (x : plain.Session) → ys ≡ xs ++ x ∷ [] → parts_of ys ≡ parts_of xs + x.access.parts
parts_pushed xs ys x is = ap parts_of is ∙ parts_more xs x

pub length_pushed : (xs ys : List plain.Session) (x : plain.Session) → ys ≡ xs ++ x ∷ [] → length ys ≡ length xs + 1
length_pushed xs ys x is = ap length is ∙ length-append xs (x ∷ [])

-- BY PLACE

-- the sum by place is the sum of the sessions' turns
pub amounts_from : (xs : List plain.Session) (k : ℕ) (turns : List Turn) → ((i : ℕ) (d : plain.Session) → i < length xs → (slice_index_or xs i d).access.amount ≡ tally weight (of_session (k + i) turns)) → amounts_of xs ≡ from_on weight k (length xs) turns
amounts_from [] k turns each = refl
amounts_from (x ∷ xs) k turns each =
    let here = each 0 x (omega arith) in
    let place = ap (λ n. tally weight (of_session n turns)) (the_first k) in
    let rest = amounts_from xs (k + 1) turns (λ i d inside. each (suc i) d (omega (arith, inside)) ∙ ap (λ n. tally weight (of_session n turns)) (the_next k i)) in
    omega (arith, here, place, rest) where
      the_first : (k : ℕ) → k + 0 ≡ k
      the_first k = omega arith

      the_next : (k i : ℕ) → k + suc i ≡ k + 1 + i
      the_next k i = omega arith

-- jobs of other sessions are none of this one
no_own : (s n : ℕ) (jobs : List Job) → n ≤ s → All (λ (j : Job). j.session < n) jobs → own_jobs s jobs ≡ []
no_own s n [] above below = refl
no_own s n (j ∷ js) above below =
    let here = below 0 j (omega arith) in
    own_other s j js (grind (arith, nat_tests)) ∙ no_own s n js above (λ k d inside. below (suc k) d (omega (arith, inside)))

-- the parts stay
pub parts_on : (xs ys : List plain.Session) → length ys ≡ length xs → ((i : ℕ) (d : plain.Session) → i < length xs → (slice_index_or ys i d).access.parts ≡ (slice_index_or xs i d).access.parts) → parts_of ys ≡ parts_of xs
parts_on [] [] same each = refl
parts_on [] (y ∷ ys) same each = absurd (omega (arith, same))
parts_on (x ∷ xs) [] same each = absurd (omega (arith, same))
parts_on (x ∷ xs) (y ∷ ys) same each =
    let here = each 0 x (omega arith) in
    omega (arith, here, parts_on xs ys (omega (arith, same)) (λ i d inside. each (suc i) d (omega (arith, inside))))

-- in none of one session more did memory run out
pub none_more : (xs : List plain.Session) (k : ℕ) (x : plain.Session) → Some x ≡ slice_get xs k → x.ran_out ≡ false → ((i : ℕ) (d : plain.Session) → i < k → (slice_index_or xs i d).ran_out ≡ false) → (i : ℕ) (d : plain.Session) → i < k + 1 → (slice_index_or xs i d).ran_out ≡ false
none_more [] k x at none before i d inside = absurd (cc)
none_more (y ∷ ys) zero x at none before zero d inside = ap (ran_out_of false) (sym at) ∙ none where
  ran_out_of : Bool → Option plain.Session → Bool
  ran_out_of b None = b
  ran_out_of b (Some z) = z.ran_out
none_more (y ∷ ys) zero x at none before (suc i) d inside = absurd (omega (arith, inside))
none_more (y ∷ ys) (suc k) x at none before zero d inside = before 0 d (omega arith)
none_more (y ∷ ys) (suc k) x at none before (suc i) d inside = none_more ys k x at none (λ j e within. before (suc j) e (omega (arith, within))) i d (omega (arith, inside))

-- what is shared after the sessions were taken in
pub record Took (old new : plain.SharedAccess) (ys : List plain.Session) : Type 0 where
  pub table : new.table ≡ old.table
  pub parts : new.parts ≡ old.parts
  pub count : new.count ≡ old.count
  pub later : IsPrefix old.seen new.seen
  pub seen : AllSeenIn new.seen ys
  pub amount : new.amount ≡ old.amount + amounts_of ys

-- THE TURNS OF A PHASE

module _ (jobs : List Job) (old new : plain.SharedAccess) (xs ys : List plain.Session) (took : Took old new ys) (fresh : AllFresh old.seen xs) (same : length ys ≡ length xs) (below : All (λ (j : Job). j.session < length xs) jobs) (ran : AllRan jobs xs ys) where
  -- any session
  abbrev some : plain.Session
  some = record { access = record { author = 0; table = old.table; seen = []; parts = 0; amount = 0 }; replies = []; ran_out = false }

  abbrev Where : ℕ → Type 0
  Where s = (s < length xs) ⊎ (length xs ≤ s)

  abbrev turns_by : (s : ℕ) → Where s → List Turn
  turns_by s (inl within) = (ran s some within).turns
  turns_by s (inr above) = []

  abbrev later_by : (s : ℕ) → Where s → List Job
  later_by s (inl within) = (ran s some within).later
  later_by s (inr above) = []

  fronts_by : (s : ℕ) (o : Where s) → own_jobs s jobs ≡ jobs_of (turns_by s o) ++ later_by s o
  fronts_by s (inl within) = (ran s some within).these
  fronts_by s (inr above) = no_own s (length xs) jobs above below

  none_by : (s : ℕ) (o : Where s) → length xs ≤ s → turns_by s o ≡ []
  none_by s (inl within) above = absurd (omega (arith, within, above))
  none_by s (inr is) above = refl

  chain_by : (s : ℕ) (o : Where s) → Chain meant old.seen (turns_by s o) new.seen
  chain_by s (inl within) =
      let r = ran s some within in
      chain_to meant old.seen r.turns (slice_index_or ys s some).access.seen new.seen (subst (λ b. Chain meant b r.turns (slice_index_or ys s some).access.seen) (fresh s some within).0.seen_is r.chain) (seen_at new.seen ys s some (omega (arith, within, same)) took.seen)
  chain_by s (inr above) = took.later

  amount_by : (s : ℕ) (o : Where s) → s < length xs → (slice_index_or ys s some).access.amount ≡ tally weight (turns_by s o)
  amount_by s (inl within) inside =
      let r = (ran s some within).amount in let none = (fresh s some within).0.amount_is in omega (arith, r, none)
  amount_by s (inr above) inside = absurd (omega (arith, inside, above))

  replies_by : (s : ℕ) (o : Where s) → s < length xs → (slice_index_or ys s some).replies ≡ replies_of (turns_by s o)
  replies_by s (inl within) inside = (ran s some within).replies ∙ ap (λ l. l ++ replies_of (ran s some within).turns) (fresh s some within).0.replies_are
  replies_by s (inr above) inside = absurd (omega (arith, inside, above))

  whole_by : NoneRanOut ys → (s : ℕ) (o : Where s) → later_by s o ≡ []
  whole_by none s (inl within) = (ran s some within).whole (none s some (omega (arith, within, same)))
  whole_by none s (inr above) = refl

  abbrev turns_at : ℕ → List Turn
  turns_at s = turns_by s (cases_lt s (length xs))

  abbrev later_at : ℕ → List Job
  later_at s = later_by s (cases_lt s (length xs))

  all_together : Together jobs turns_at later_at
  all_together = put_together jobs turns_at later_at (λ s. fronts_by s (cases_lt s (length xs)))

  chain_at : (s : ℕ) → Chain meant old.seen (of_session s all_together.0) new.seen
  chain_at s = subst (λ ts. Chain meant old.seen ts new.seen) (sym (all_together.1 s)) (chain_by s (cases_lt s (length xs)))

  amount_at : (i : ℕ) (d : plain.Session) → i < length ys → (slice_index_or ys i d).access.amount ≡ tally weight (of_session (0 + i) all_together.0)
  amount_at i d inside =
      ap (λ (x : plain.Session). x.access.amount) (get_or_default ys i d some inside) ∙ amount_by i (cases_lt i (length xs)) (omega (arith, inside, same)) ∙ ap (tally weight) (sym (all_together.1 i)) ∙ ap (λ n. tally weight (of_session n all_together.0)) (the_same i) where
        the_same : (i : ℕ) → i ≡ 0 + i
        the_same i = omega arith

  amounts_are : amounts_of ys ≡ tally weight all_together.0
  amounts_are =
      amounts_from ys 0 all_together.0 amount_at ∙ sym (tally_from weight (length ys) all_together.0 (are_below (length ys) all_together.0 (λ s above. all_together.1 s ∙ none_by s (cases_lt s (length xs)) (omega (arith, above, same)))))

  have_replies : HaveReplies ys all_together.0
  have_replies i d inside =
      ap (λ (x : plain.Session). x.replies) (get_or_default ys i d some inside) ∙ replies_by i (cases_lt i (length xs)) (omega (arith, inside, same)) ∙ ap replies_of (sym (all_together.1 i))

  takes : TakesTurns all_together.0 old new
  takes = record {
    table = took.table;
    parts = took.parts;
    count = took.count;
    later = took.later;
    chains = chain_at;
    amount = took.amount ∙ ap (λ n. old.amount + n) amounts_are;
  }

  -- each session answered some of the first of its jobs
  pub fronts_run : RunsFronts jobs old new
  fronts_run = record {
    turns = all_together.0;
    fronts = λ s. (later_at s, fronts_by s (cases_lt s (length xs)) ∙ ap (λ ts. jobs_of ts ++ later_at s) (sym (all_together.1 s)));
    taken = takes;
  }

  -- all jobs were answered, where memory ran out in no session
  pub phase_runs : (replies : List Reply) → NoneRanOut ys → ((turns : List Turn) → jobs_of turns ≡ jobs → HaveReplies ys turns → replies ≡ replies_of turns) → RunsPhase jobs replies old new
  phase_runs replies none told =
      let these = all_together.2 (λ s. whole_by none s (cases_lt s (length xs))) in
      record {
        turns = all_together.0;
        these = these;
        told = sym (told all_together.0 these have_replies);
        taken = takes;
      }

  tended_by : (k : ℕ) → NoneRanOut ys → AllTendOn k xs ys → (s : ℕ) (o : Where s) → Each (λ t. WasTended k new.seen t.reply) (turns_by s o)
  tended_by k none tends s (inl within) =
      let x = slice_index_or xs s some in
      let y = slice_index_or ys s some in
      let inside : s < length ys = omega (arith, within, same) in
      let were : WereTended k y.access.seen y.replies = tends s some within (subst (WereTended k x.access.seen) (sym (fresh s some within).0.replies_are) tt) (none s some inside) in
      each_turn k new.seen (ran s some within).turns (subst (WereTended k new.seen) (replies_by s (inl within) within) (were_later k y.access.seen new.seen y.replies (seen_at new.seen ys s some inside took.seen) were))
  tended_by k none tends s (inr above) = tt

  -- and behind each commit of rows its table was tended
  pub phase_tended : (k : ℕ) (replies : List Reply) → NoneRanOut ys → ((turns : List Turn) → jobs_of turns ≡ jobs → HaveReplies ys turns → replies ≡ replies_of turns) → AllTendOn k xs ys → WereTended k new.seen replies
  phase_tended k replies none told tends =
      let these = all_together.2 (λ s. whole_by none s (cases_lt s (length xs))) in
      let each = each_of_sessions (λ t. WasTended k new.seen t.reply) all_together.0 (λ s. subst (Each (λ t. WasTended k new.seen t.reply)) (sym (all_together.1 s)) (tended_by k none tends s (cases_lt s (length xs)))) in
      subst (WereTended k new.seen) (sym (told all_together.0 these have_replies)) (each_reply k new.seen all_together.0 each)

-- THE WHOLE OF A PHASE

-- no session could be made
pub none_run : (jobs : List Job) (x z y : plain.SharedAccess) → x ≡ z → y.table ≡ x.table → y.seen ≡ x.seen → y.parts ≡ x.parts → y.amount ≡ x.amount → y.count ≡ x.count → RunsFronts jobs z y
none_run jobs x z y lent table seen parts amount count = subst (λ w. RunsFronts jobs w y) lent (record {
  turns = [];
  fronts = λ s. (own_jobs s jobs, refl);
  taken = record {
    table = table;
    parts = parts;
    count = count;
    later = before;
    chains = λ s. before;
    amount = omega (arith, amount);
  };
}) where
  before : IsPrefix x.seen y.seen
  before = subst (IsPrefix x.seen) (sym seen) (begins_itself x.seen)

below_lent : (n : ℕ) (lent : List LentJob) → All (λ (j : LentJob). j.session < n) lent → All (λ (j : Job). j.session < n) (map job_of lent)
below_lent n [] below k d inside = absurd (omega (arith, inside))
below_lent n (j ∷ js) below zero d inside = below 0 j (omega arith)
below_lent n (j ∷ js) below (suc k) d inside = below_lent n js (λ i e within. below (suc i) e (omega (arith, within))) k d (omega (arith, inside))

-- what is written through a slice of all items is what is there then
pub written_back : (n : ℕ) (new old items : List plain.Session) → length new ≡ length old → length old ≡ n → take n (new ++ drop (length new) items) ≡ new
written_back n new old items same long = ap (λ k. take k (new ++ drop (length new) items)) (sym long ∙ sym same) ∙ take-append_seam new (drop (length new) items)

-- the parts come back
pub parts_back : (jobs : List Job) (xs ys ws vs zs : List plain.Session) (left old now : ℕ) → length ys ≡ length xs → AllRan jobs xs ys → ws ≡ ys → KeepAll ws vs → zs ≡ vs → left + parts_of xs ≡ old → now ≡ left + parts_of zs → now ≡ old
parts_back jobs xs ys ws vs zs left old now same ran lent kept back split joined =
    let a = parts_on xs ys same (λ i d inside. (ran i d inside).same.parts) in
    let b = ap parts_of lent in let d = kept.parts in let e = ap parts_of back in
    omega (arith, a, b, d, e, split, joined)

taken_back : (x y : plain.SharedAccess) (ys ws vs zs : List plain.Session) → ws ≡ ys → KeepAll ws vs → zs ≡ vs → y.table ≡ x.table → y.parts ≡ x.parts → y.count ≡ x.count → IsPrefix x.seen y.seen → AllSeenIn y.seen zs → y.amount ≡ x.amount + amounts_of zs → Took x y ys
taken_back x y ys ws vs zs lent kept back table parts count later seen amount = record {
  table = table;
  parts = parts;
  count = count;
  later = later;
  seen = subst (AllSeenIn y.seen) lent (kept.seen y.seen (subst (AllSeenIn y.seen) back seen));
  amount = amount ∙ ap (λ n. x.amount + n) (ap amounts_of back ∙ kept.amounts ∙ ap amounts_of lent);
}

phase_ends : (k : ℕ) (jobs : List Job) (x y : plain.SharedAccess) (xs ys : List plain.Session) (result : Result (Vec Reply Global) AllocError) → Took x y ys → AllFresh x.seen xs → length ys ≡ length xs → All (λ (j : Job). j.session < length xs) jobs → AllRan jobs xs ys → OnOk result (NoneRanOut ys) → ((turns : List Turn) → jobs_of turns ≡ jobs → HaveReplies ys turns → IfOk result (λ r. r.items ≡ replies_of turns)) → AllTendOn k xs ys
    → Runs jobs x y result × IfOk result (λ r. WereTended k y.seen r.items)
phase_ends k jobs x y xs ys (Ok r) took fresh same below ran none told tends =
    (phase_runs jobs x y xs ys took fresh same below ran r.items none told, phase_tended jobs x y xs ys took fresh same below ran k r.items none told tends)
phase_ends k jobs x y xs ys (Err e) took fresh same below ran none told tends = (fronts_run jobs x y xs ys took fresh same below ran, tt)

-- sessions were made, ran, handed their replies out and were taken in
pub phase_done : (k : ℕ) (lent : List LentJob) (x z y : plain.SharedAccess) (xs ys ws vs zs : List plain.Session) (result : Result (Vec Reply Global) AllocError) → x ≡ z → AllFresh x.seen xs → length xs ≡ x.count → length ys ≡ length xs → All (λ (j : LentJob). j.session < z.count) lent → AllRan (map job_of lent) xs ys → ws ≡ ys → KeepAll ws vs → zs ≡ vs → OnOk result (NoneRanOut ws) → ((turns : List Turn) → jobs_of turns ≡ map job_of lent → HaveReplies ws turns → IfOk result (λ r. r.items ≡ replies_of turns)) → y.table ≡ x.table → y.parts ≡ x.parts → y.count ≡ x.count → IsPrefix x.seen y.seen → AllSeenIn y.seen zs → y.amount ≡ x.amount + amounts_of zs → AllTendOn k xs ys
    → Runs (map job_of lent) z y result × IfOk result (λ r. WereTended k y.seen r.items)
phase_done k lent x z y xs ys ws vs zs result seen_as fresh long same below ran handed kept back none told table parts count later seen amount tends =
    let number : z.count ≡ length xs = sym (long ∙ ap (λ (v : plain.SharedAccess). v.count) seen_as) in
    subst (λ v. Runs (map job_of lent) v y result × IfOk result (λ r. WereTended k y.seen r.items)) seen_as (phase_ends k (map job_of lent) x y xs ys result (taken_back x y ys ws vs zs handed kept back table parts count later seen amount) fresh same (subst (λ n. All (λ (j : Job). j.session < n) (map job_of lent)) number (below_lent z.count lent below)) ran (subst (λ l. OnOk result (NoneRanOut l)) handed none) (λ turns are held. told turns are (subst (λ l. HaveReplies l turns) (sym handed) held)) tends)
