-- The calls of an engine as steps of a world.
use Rattle.std.proofs.Common.{◌≡◌, ◌⊎◌, ℕ, zero, suc, ◌<◌, ◌≤◌, nat_lt, Bool, true, false, cond, ◌+◌, ◌&&◌, not, nat_le, option_map, option_and_then, List, [], ◌∷◌, ◌++◌, length, map, take, replicate, Option, Some, None, Result, Ok, Err, IfOk, IfErr, slice_get, inl, inr, refl, IsTrue, sym, ap, ◌∙◌, subst, arith, append-nil, length-append}
use Rattle.std.specs.List.{AllByRecursion}
use Rattle.std.proofs.lemmas.Bool.{lt-ltb, ltb-true}
use Rattle.std.proofs.lemmas.List.Elements.{All-from_recursion, recursion_from_All}
use Rattle.std.proofs.Math.Seq.{take-append_seam}
use mathlib.Core.List.{IsPrefix}
use mathlib.Core.Option.{some, Option as Homes}
use lib.ListN.{get_elem?}
use Rattle.atomic_table.specs.Table.{State}
use Rattle.tl_head.specs.declared.views.View.{View}
use Rattle.tl_head.specs.Rule.{DoorState, FitsSlot, FitsTable}
use Rattle.tl_types.specs.declared.commits.Commit.{Commit}
use Rattle.tl_types.specs.declared.commits.Entry.{Entry}
use Rattle.tl_types.specs.declared.commits.Entry.TheVariants as variant
use Rattle.tl_types.specs.declared.batches.Batch.{Batch}
use Rattle.tl_types.specs.declared.batches.BatchFault.{BatchFault}
use Rattle.tl_types.specs.declared.limits.Limits.{Limits}
use Rattle.tl_types.specs.Entries.{commits_of, has_break}
use Rattle.tl_types.specs.History.{at_place}
use Rattle.tl_device.specs.Known.{Rose}
use Rattle.tl_types.specs.Legality.{are_legal, are_legal_behind, database_behind, has_mark, has_table, may_follow, version_at}
use Rattle.tl_types.proofs.Lists.{and_left, and_right, and_both, length-at_place}
use Rattle.tl_types.proofs.EntryLemmas.{legal_behind-append}
use Rattle.tl_index.specs.Snapshots.{commit_entry, break_entry, mark_entry}
use Rattle.tl_core.specs.declared.passes.Build.{Build}
use Rattle.tl_core.specs.declared.passes.PassState.{PassState}
use Rattle.tl_core.specs.declared.steps.Step.{Step}
use Rattle.tl_core.specs.declared.steps.Step.TheVariants as step
use Rattle.tl_core.specs.World.{World, IsLegal, IsLegalBuild, IsLegalPass, after_mark, after_step, after_allowed, after_steps, appended, begun_at, build_of, ended, may_mark, pass_at, seen_to, with_pass}
use Rattle.tl_core.specs.Law.{GoesOn}
use Rattle.tl_core.proofs.LawLemmas.{goes_on}
use Rattle.tl_history.specs.declared.faults.CommitFault.{CommitFault}
use Rattle.tl_history.specs.declared.faults.CommitFault.TheVariants as fault
use Rattle.tl_engine.specs.declared.faults.Tended.{Tended}
use Rattle.tl_engine.specs.declared.faults.Tended.TheVariants as tended
use Rattle.tl_engine.specs.declared.faults.TendFault.{TendFault}
use Rattle.tl_engine.specs.declared.faults.TendFault.TheVariants as tend_fault
use Rattle.tl_engine.specs.Counting.{news}
use Rattle.tl_history.specs.Answers.{version_of}
use Rattle.tl_history.specs.Lists.{version_after}
use Rattle.tl_history.specs.Plain as plain
use Rattle.tl_history.specs.Writing.{WriteFails}
use Rattle.tl_engine.specs.Saying.{CommitSays, FailSays, becomes, shown_by}
use Rattle.tl_engine.specs.Heads.{HasBegun, HasBuild, HeadState, IsLegalState, IsSeenOf, LeadTo, SeenState, ShowsWorld, pass_of, seen_in, start_state, state_of, world_of}
use Rattle.tl_engine.specs.Calls.{AnswersOver, AreCallsOf, AreCallsOfTend, Call, FailsOver, HasBase, IsAllowed, IsBeginCall, IsCallIn, IsCallOf, IsCommitCall, IsMarkCall, IsReadCall, IsRun, IsRunOfWorld, KeepsPromise, MarkTakesEffect, MarksItsBuild, TakesEffect, after_call, after_calls, as_list, build_after, left_by, news_of_calls, publishing, reading, seen_after, steps_of, steps_of_calls}
use Rattle.tl_engine.specs.Tending.{HasRead, MarkAnswersOver, TendSays}
use Rattle.tl_engine.proofs.CountLemmas.{begins_on, news_split}
use Rattle.tl_engine.proofs.TendLemmas.{table_known}

-- LISTS

shorter : (a b : List Entry) → IsPrefix a b → length a ≤ length b
shorter a b p = omega (arith, ap length p.1, length-append a p.0)

-- of two beginnings of one list that are as long, each is the other
same_length : (a b l : List Entry) → IsPrefix a l → IsPrefix b l → length a ≡ length b → a ≡ b
same_length a b l p q n =
    sym (take-append_seam a p.0) ∙ ap (take (length a)) (p.1 ∙ sym q.1) ∙ ap (λ k. take k (b ++ q.0)) n ∙ take-append_seam b q.0

-- a beginning of a legal list is legal
legal_begin : (a l : List Entry) → IsPrefix a l → are_legal l ≡ true → are_legal a ≡ true
legal_begin a l p h = front [] a p.0 (subst (λ es. are_legal es ≡ true) (sym p.1) h) where
  front : (before es fs : List Entry) → are_legal_behind before (es ++ fs) ≡ true → are_legal_behind before es ≡ true
  front before [] fs h = refl
  front before (e ∷ es) fs h = and_both (may_follow before e) (are_legal_behind (before ++ e ∷ []) es)
      (and_left (may_follow before e) (are_legal_behind (before ++ e ∷ []) (es ++ fs)) h)
      (front (before ++ e ∷ []) es fs (and_right (may_follow before e) (are_legal_behind (before ++ e ∷ []) (es ++ fs)) h))

-- the last entry of a legal list may follow those before it
last_follows : (a : List Entry) (e : Entry) → are_legal (a ++ e ∷ []) ≡ true → may_follow a e ≡ true
last_follows a e h = and_left (may_follow a e) true (legal_behind-append [] a (e ∷ []) h)

-- WHAT IS SHOWN

all_map : (es : List Entry) (ps : List SeenState) → AllByRecursion (IsSeenOf es) ps → AllByRecursion (IsLegalPass es) (map pass_of ps)
all_map es [] h = h
all_map es (p ∷ ps) h = (record { within = shorter p.seen es h.0.begins; based = h.0.based }, all_map es ps h.1)

pub world_is_legal : (state : HeadState) → IsLegalState state → IsLegal (world_of state)
world_is_legal state h = record {
  history = h.legal;
  fronts = All-from_recursion (IsLegalPass state.written) (map pass_of state.passes)
      (all_map state.written state.passes (recursion_from_All (IsSeenOf state.written) state.passes h.passes));
}

pub start_is : (es : List Entry) (n : ℕ) → map pass_of (replicate n (record { seen = es; build = None })) ≡ replicate n (pass_at (length es))
start_is es zero = refl
start_is es (suc n) = ap (λ ps. pass_at (length es) ∷ ps) (start_is es n)

all_whole : (es : List Entry) (n : ℕ) → AllByRecursion (IsSeenOf es) (replicate n (record { seen = es; build = None }))
all_whole es zero = tt
all_whole es (suc n) = (record { begins = ([], append-nil es); based = tt }, all_whole es n)

pub start_is_legal : (es : List Entry) (n : ℕ) → are_legal es ≡ true → IsLegalState (start_state es n)
start_is_legal es n l = record { legal = l; passes = All-from_recursion (IsSeenOf es) (replicate n (record { seen = es; build = None })) (all_whole es n) }

-- ONE PASS

within : (ps : List SeenState) (i : ℕ) (l : List Entry) → option_map (λ (p : SeenState). p.seen) (slice_get ps i) ≡ Some l → i < length (map pass_of ps)
within [] i l e = absurd (cc)
within (p ∷ ps) zero l e = omega arith
within (p ∷ ps) (suc i) l e = let h = within ps i l e in omega arith

there : (ps : List SeenState) (i : ℕ) (l : List Entry) → option_map (λ (p : SeenState). p.seen) (slice_get ps i) ≡ Some l → nat_lt i (length (map pass_of ps)) ≡ true
there ps i l e = lt-ltb i (length (map pass_of ps)) (within ps i l e)

at_map : (ps : List SeenState) (i : ℕ) (f : PassState → PassState) (h : SeenState → SeenState) → ((p : SeenState) → f (pass_of p) ≡ pass_of (h p)) → at_place i f (map pass_of ps) ≡ map pass_of (at_place i h ps)
at_map [] i f h same = refl
at_map (p ∷ ps) zero f h same = ap (λ q. q ∷ map pass_of ps) (same p)
at_map (p ∷ ps) (suc i) f h same = ap (λ qs. pass_of p ∷ qs) (at_map ps i f h same)

at_twice : (ps : List PassState) (i : ℕ) (f g h : PassState → PassState) → ((p : PassState) → f (g p) ≡ h p) → at_place i f (at_place i g ps) ≡ at_place i h ps
at_twice [] i f g h same = refl
at_twice (p ∷ ps) zero f g h same = ap (λ q. q ∷ ps) (same p)
at_twice (p ∷ ps) (suc i) f g h same = ap (λ qs. p ∷ qs) (at_twice ps i f g h same)

still_there : (ps : List PassState) (i j : ℕ) (f : PassState → PassState) → nat_lt i (length ps) ≡ true → nat_lt i (length (at_place j f ps)) ≡ true
still_there ps i j f h = rw (length-at_place j f ps) h

-- what a pass builds is there while it sees more
build_kept : (ps : List SeenState) (i n : ℕ) (p : SeenState) (b : Build) → slice_get ps i ≡ Some p → p.build ≡ Some b → option_and_then (λ (q : PassState). q.build) (slice_get (at_place i (seen_to n) (map pass_of ps)) i) ≡ Some b
build_kept [] i n p b e k = absurd (cc)
build_kept (q ∷ ps) zero n p b e k = let same : q ≡ p = cc in ap (λ (r : SeenState). r.build) same ∙ k
build_kept (q ∷ ps) (suc i) n p b e k = build_kept ps i n p b e k

-- WHAT A CALL LEAVES

take_front : (n : ℕ) (a b : List Entry) → n ≤ length a → take n (a ++ b) ≡ take n a
take_front zero a b l = refl
take_front (suc n) [] b l = absurd (omega arith)
take_front (suc n) (x ∷ a) b l = ap (λ xs. x ∷ xs) (take_front n a b (omega arith))

based_later : (es new : List Entry) (n m : ℕ) (b : Option Build) → IsPrefix es new → n ≤ length es → n ≤ m → IsLegalBuild es n b → IsLegalBuild new m b
based_later es new n m None p l k h = tt
based_later es new n m (Some b) p l k h =
    let same : take b.base new ≡ take b.base es = ap (take b.base) (sym p.1) ∙ take_front b.base es p.0 (omega (arith, l, h.0)) in
    (omega (arith, k, h.0), subst (λ xs. has_table xs b.table ≡ true) (sym same) h.1)

seen_later : (es new : List Entry) (p : SeenState) → IsPrefix es new → IsSeenOf es p → IsSeenOf new p
seen_later es new p more h =
    record {
      begins = begins_on p.seen es new h.begins more;
      based = based_later es new (length p.seen) (length p.seen) p.build more (shorter p.seen es h.begins) (omega arith) h.based;
    }

all_later : (es new : List Entry) (ps : List SeenState) → IsPrefix es new → AllByRecursion (IsSeenOf es) ps → AllByRecursion (IsSeenOf new) ps
all_later es new [] more h = tt
all_later es new (p ∷ ps) more h = (seen_later es new p more h.0, all_later es new ps more h.1)

all_left : (es new : List Entry) (i : ℕ) (ps : List SeenState) (built : Option Build → Option Build) → IsPrefix es new → ((p : SeenState) → IsSeenOf es p → IsLegalBuild new (length new) (built p.build)) → AllByRecursion (IsSeenOf es) ps
    → AllByRecursion (IsSeenOf new) (at_place i (λ (p : SeenState). record { seen = new; build = built p.build }) ps)
all_left es new i [] built more based h = tt
all_left es new zero (p ∷ ps) built more based h = (record { begins = ([], append-nil new); based = based p h.0 }, all_later es new ps more h.1)
all_left es new (suc i) (p ∷ ps) built more based h = (seen_later es new p more h.0, all_left es new i ps built more based h.1)

built_legal : (es new : List Entry) (begins : Option ℕ) (e : Option Entry) (p : SeenState) → IsPrefix es new → ((t : ℕ) → begins ≡ Some t → has_table es t ≡ true) → IsSeenOf es p → IsLegalBuild new (length new) (build_after begins e (length es) p.build)
built_legal es new (Some t) e p more table h =
    let front : take (length es) new ≡ es = ap (take (length es)) (sym more.1) ∙ take-append_seam es more.0 in
    (shorter es new more, subst (λ xs. has_table xs t ≡ true) (sym front) (table t refl))
built_legal es new None None p more table h =
    based_later es new (length p.seen) (length new) p.build more (shorter p.seen es h.begins) (omega (arith, shorter p.seen es h.begins, shorter es new more)) h.based
built_legal es new None (Some (variant.Commit c)) p more table h =
    based_later es new (length p.seen) (length new) p.build more (shorter p.seen es h.begins) (omega (arith, shorter p.seen es h.begins, shorter es new more)) h.based
built_legal es new None (Some (variant.Mark t v)) p more table h = tt
built_legal es new None (Some (variant.Break c)) p more table h =
    based_later es new (length p.seen) (length new) p.build more (shorter p.seen es h.begins) (omega (arith, shorter p.seen es h.begins, shorter es new more)) h.based

-- ONE CALL

module _ (state : HeadState) (i : ℕ) where
  -- the world once the pass has seen a list, and builds what it then builds
  abbrev pub left_world : (Option Build → Option Build) → List Entry → World
  left_world built new = world_of (record { written = new; passes = at_place i (λ (p : SeenState). record { seen = new; build = built p.build }) state.passes })

  shown : List PassState
  shown = map pass_of state.passes

  read_leads : nat_lt i (length (map pass_of state.passes)) ≡ true → LeadTo (world_of state) (step.Read i ∷ []) (left_world (λ b. b) state.written)
  read_leads h = (
    h,
    ap (λ (ps : List PassState). record { entries = state.written; passes = ps })
        (at_map state.passes i (seen_to (length state.written)) (λ (p : SeenState). record { seen = state.written; build = p.build }) (λ p. refl)),
  )

  begin_leads : (table : ℕ) → nat_lt i (length (map pass_of state.passes)) ≡ true → has_table state.written table ≡ true
      → LeadTo (world_of state) (step.Begin i table ∷ []) (left_world (λ b. Some (record { table = table; base = length state.written })) state.written)
  begin_leads table h known = (
    and_both (nat_lt i (length (map pass_of state.passes))) (has_table state.written table) h known,
    ap (λ (ps : List PassState). record { entries = state.written; passes = ps })
        (at_map state.passes i (begun_at (length state.written) table) (λ (p : SeenState). record { seen = state.written; build = Some (record { table = table; base = length state.written }) }) (λ p. refl)),
  )

  -- the pass sees all, then an entry is appended, and the pass sees it
  both_read : (e : Entry) → with_pass (appended (with_pass (world_of state) i (seen_to (length state.written))) e) i (seen_to (length (state.written ++ e ∷ []))) ≡ left_world (λ b. b) (state.written ++ e ∷ [])
  both_read e =
      let new : List Entry = state.written ++ e ∷ [] in
      ap (λ (ps : List PassState). record { entries = new; passes = ps })
      (at_twice (map pass_of state.passes) i (seen_to (length new)) (seen_to (length state.written)) (seen_to (length new)) (λ p. refl)
      ∙ at_map state.passes i (seen_to (length new)) (λ (p : SeenState). record { seen = new; build = p.build }) (λ p. refl))

  -- the pass sees all, then its build ends in a mark, and the pass sees that
  marked : (e : Entry) → with_pass (with_pass (appended (with_pass (world_of state) i (seen_to (length state.written))) e) i ended) i (seen_to (length (state.written ++ e ∷ []))) ≡ left_world (λ b. None) (state.written ++ e ∷ [])
  marked e =
      let new : List Entry = state.written ++ e ∷ [] in
      let none : PassState → PassState = λ (p : PassState). record { seen = length new; build = None } in
      ap (λ (ps : List PassState). record { entries = new; passes = ps })
      (at_twice (at_place i (seen_to (length state.written)) (map pass_of state.passes)) i (seen_to (length new)) ended none (λ p. refl)
      ∙ at_twice (map pass_of state.passes) i none (seen_to (length state.written)) none (λ p. refl)
      ∙ at_map state.passes i none (λ (p : SeenState). record { seen = new; build = None }) (λ p. refl))

  mark_leads : (b : Build) → nat_lt i (length (map pass_of state.passes)) ≡ true
      → build_of (with_pass (world_of state) i (seen_to (length state.written))) i ≡ Some b
      → may_follow state.written (variant.Mark b.table (version_at state.written b.base)) ≡ true
      → LeadTo (world_of state) (step.Read i ∷ step.Mark i ∷ step.Read i ∷ []) (left_world (λ b. None) (state.written ++ variant.Mark b.table (version_at state.written b.base) ∷ []))
  mark_leads b h built follows =
      let e : Entry = variant.Mark b.table (version_at state.written b.base) in
      let seen : World = with_pass (world_of state) i (seen_to (length state.written)) in
      let may : may_mark state.written (Some b) ≡ true =
      outer (not (has_break state.written)) (has_table state.written b.table) (nat_le (version_at state.written b.base) (length (commits_of state.written))) (not (has_mark state.written b.table (version_at state.written b.base))) follows in
      let last : nat_lt i (length (at_place i ended (at_place i (seen_to (length state.written)) (map pass_of state.passes)))) ≡ true =
      still_there (at_place i (seen_to (length state.written)) (map pass_of state.passes)) i i ended (still_there (map pass_of state.passes) i i (seen_to (length state.written)) h) in (
        h,
        subst (λ (o : Option Build). IsTrue (may_mark state.written o) × LeadTo (after_mark seen i o) (step.Read i ∷ []) (left_world (λ b. None) (state.written ++ e ∷ []))) (sym built)
            (may, (last, marked e)),
      ) where
        outer : (a b c d : Bool) → (a && b && c && d) ≡ true → (a && d) ≡ true
        outer true true true d h = h
        outer true true false d h = absurd (cc)
        outer true false c d h = absurd (cc)
        outer false b c d h = absurd (cc)

  call_leads : (begins : Option ℕ) (e : Option Entry) → nat_lt i (length (map pass_of state.passes)) ≡ true → are_legal (state.written ++ as_list e) ≡ true
      → ((t : ℕ) → begins ≡ Some t → (has_table state.written t ≡ true) × (e ≡ None)) → ((t v : ℕ) → e ≡ Some (variant.Mark t v) → HasBuild state i t v)
      → LeadTo (world_of state) (reading i begins ∷ publishing i e) (left_world (build_after begins e (length state.written)) (state.written ++ as_list e))
  call_leads (Some t) None h l table own =
      subst (λ es. LeadTo (world_of state) (step.Begin i t ∷ []) (left_world (λ b. Some (record { table = t; base = length state.written })) es)) (sym (append-nil state.written)) (begin_leads t h (table t refl).0)
  call_leads (Some t) (Some e) h l table own = let none = (table t refl).1 in absurd (cc)
  call_leads None None h l table own = subst (λ es. LeadTo (world_of state) (step.Read i ∷ []) (left_world (λ b. b) es)) (sym (append-nil state.written)) (read_leads h)
  call_leads None (Some (variant.Commit c)) h l table own =
      (h, (last_follows state.written (variant.Commit c) l, (still_there (map pass_of state.passes) i i (seen_to (length state.written)) h, both_read (variant.Commit c))))
  call_leads None (Some (variant.Mark t v)) h l table own =
      let built = own t v refl in
      let b : Build = record { table = t; base = built.base } in
      let follows : may_follow state.written (variant.Mark t (version_at state.written built.base)) ≡ true = subst (λ n. may_follow state.written (variant.Mark t n) ≡ true) (sym built.version_is) (last_follows state.written (variant.Mark t v) l) in
      subst (λ n. LeadTo (world_of state) (step.Read i ∷ step.Mark i ∷ step.Read i ∷ []) (left_world (λ b. None) (state.written ++ variant.Mark t n ∷ []))) built.version_is
      (mark_leads b h (build_kept state.passes i (length state.written) built.begun.front b built.begun.pass_is built.begun.build_is) follows)
  call_leads None (Some (variant.Break c)) h l table own =
      (h, (last_follows state.written (variant.Break c) l, (still_there (map pass_of state.passes) i i (seen_to (length state.written)) h, both_read (variant.Break c))))

-- a promise to begin a build
begins_fact : (limits : Limits) (first_count : ℕ) (call : Call) → KeepsPromise limits first_count call → (t : ℕ) → call.begins ≡ Some t → (has_table call.base t ≡ true) × (call.entry ≡ None)
begins_fact limits first_count call promise t e =
    elim promise.1 as (λ _. (has_table call.base t ≡ true) × (call.entry ≡ None)) [
      | inl r ↦ absurd (let n = r.begins_none in cc)
      | inr o ↦
          elim o as (λ _. (has_table call.base t ≡ true) × (call.entry ≡ None)) [
            | inl b ↦ (let same : b.table ≡ t = (let n = b.begins_is in cc) in subst (λ n. has_table call.base n ≡ true) same b.there, b.entry_none)
            | inr p ↦
                elim p as (λ _. (has_table call.base t ≡ true) × (call.entry ≡ None)) [
                  | inl c ↦ absurd (let n = c.begins_none in cc)
                  | inr m ↦ absurd (let n = m.begins_none in cc)
                ]
          ]
    ]

module _ (state : HeadState) (call : Call) where
  steps_in : IsLegalState state → seen_in state call.pass ≡ Some call.old → call.base ≡ state.written → ((t : ℕ) → call.begins ≡ Some t → (has_table call.base t ≡ true) × (call.entry ≡ None))
      → MarksItsBuild state call → are_legal (seen_after call) ≡ true → IsAllowed state call (after_call state call)
  steps_in h pass base table marks legal =
      let known : (t : ℕ) → call.begins ≡ Some t → (has_table state.written t ≡ true) × (call.entry ≡ None) =
      (λ t e. subst (λ es. (has_table es t ≡ true) × (call.entry ≡ None)) base (table t e)) in
      let all : IsLegalState (after_call state call) × LeadTo (world_of state) (steps_of call) (world_of (after_call state call)) =
      subst (λ (es : List Entry).
      let new : List Entry = es ++ as_list call.entry in
      let end : HeadState = record { written = new; passes = at_place call.pass (λ (p : SeenState). record { seen = new; build = build_after call.begins call.entry (length es) p.build }) state.passes } in
      IsLegalState end × LeadTo (world_of state) (steps_of call) (world_of end)) (sym base)
      (let new : List Entry = state.written ++ as_list call.entry in
      let new_legal : are_legal new ≡ true = subst (λ b. are_legal (b ++ as_list call.entry) ≡ true) base legal in
      let more : IsPrefix state.written new = (as_list call.entry, refl) in (
        record {
          legal = new_legal;
          passes = All-from_recursion (IsSeenOf new) (at_place call.pass (λ (p : SeenState). record { seen = new; build = build_after call.begins call.entry (length state.written) p.build }) state.passes)
              (all_left state.written new call.pass state.passes (build_after call.begins call.entry (length state.written)) more
              (λ p s. built_legal state.written new call.begins call.entry p more (λ t e. (known t e).0) s)
              (recursion_from_All (IsSeenOf state.written) state.passes h.passes));
        },
        call_leads state call.pass call.begins call.entry (there state.passes call.pass call.old pass) new_legal known marks,
      )) in
      record { legal = all.0; leads = all.1 }

  pub call_steps : (limits : Limits) (first_count : ℕ) → IsLegalState state → IsCallIn limits first_count state call → IsAllowed state call (after_call state call)
  call_steps limits first_count h c = steps_in h c.pass c.base (begins_fact limits first_count call c.promise) c.marks c.legal

-- WHAT A PASS BUILDS

at_front : (ps : List SeenState) (i : ℕ) (f : SeenState → SeenState) (l : List Entry) → option_map (λ (p : SeenState). p.seen) (slice_get ps i) ≡ Some l → (p : SeenState) × (slice_get (at_place i f ps) i ≡ Some (f p))
at_front [] i f l e = absurd (cc)
at_front (p ∷ ps) zero f l e = (p, refl)
at_front (p ∷ ps) (suc i) f l e = at_front ps i f l e

at_other : (ps : List SeenState) (i j : ℕ) (f : SeenState → SeenState) → (i ≡ j → ⊥) → slice_get (at_place i f ps) j ≡ slice_get ps j
at_other [] i j f n = refl
at_other (p ∷ ps) zero zero f n = absurd (n refl)
at_other (p ∷ ps) zero (suc j) f n = refl
at_other (p ∷ ps) (suc i) zero f n = refl
at_other (p ∷ ps) (suc i) (suc j) f n = at_other ps i j f (λ e. n (ap suc e))

pub begun_then : (state : HeadState) (call : Call) (table : ℕ) → seen_in state call.pass ≡ Some call.old → call.begins ≡ Some table → HasBegun (after_call state call) call.pass table (length call.base)
begun_then state call table at begins =
    let f : SeenState → SeenState = λ (p : SeenState). record { seen = seen_after call; build = build_after call.begins call.entry (length call.base) p.build } in
    let front = at_front state.passes call.pass f call.old at in
    record {
      front = f front.0;
      pass_is = front.1;
      build_is = ap (λ o. build_after o call.entry (length call.base) front.0.build) begins;
    }

pub begun_still : (state : HeadState) (call : Call) (pass table base : ℕ) → HasBegun state pass table base → (call.pass ≡ pass → ⊥) → HasBegun (after_call state call) pass table base
begun_still state call pass table base h other =
    record {
      front = h.front;
      pass_is = at_other state.passes call.pass pass (λ (p : SeenState). record { seen = seen_after call; build = build_after call.begins call.entry (length call.base) p.build }) other ∙ h.pass_is;
      build_is = h.build_is;
    }

-- the version of a build is that of the list on which it began
pub build_there : (state : HeadState) (pass table : ℕ) (list : List Entry) → IsPrefix list state.written → HasBegun state pass table (length list) → HasBuild state pass table (version_after list)
build_there state pass table list p h =
    record {
      base = length list;
      begun = h;
      version_is = ap (λ es. length (commits_of es)) (ap (take (length list)) (sym p.1) ∙ take-append_seam list p.0);
    }

-- THE BASE OF A COMMIT

plus_none : (n : ℕ) → n + 0 ≡ n
plus_none n = omega arith

failed_at : (meaning : List Entry → Result Commit BatchFault) (first_count : ℕ) (old new : List Entry) (before after : ℕ) (f : CommitFault) → FailSays meaning first_count old new before after f → HasBase meaning first_count old new before after (Err f)
failed_at meaning first_count old new before after (fault.Broken version) h =
    record { base = new; entry = None; begins = h.0; new_is = sym (append-nil new); answers = (h.1, h.2, refl); counted = h.3 ∙ sym (plus_none before) }
failed_at meaning first_count old new before after (fault.Refused version refusal) h =
    record { base = new; entry = None; begins = h.0; new_is = sym (append-nil new); answers = (h.1, h.2, refl, h.4); counted = h.3 ∙ sym (plus_none before) }
failed_at meaning first_count old new before after fault.NoMemory h =
    record { base = new; entry = None; begins = h.0; new_is = sym (append-nil new); answers = refl; counted = h.1 ∙ sym (plus_none before) }
failed_at meaning first_count old new before after (fault.Device version count) h =
    let a = h.0 in
    record {
      base = a.base;
      entry = Some (break_entry a.commit);
      begins = a.begins;
      new_is = a.entries_are;
      answers = (record { commit = a.commit; whole = a.whole; makes = a.makes; entry_is = refl }, h.1, h.2);
      counted = h.3;
    }

pub base_of : (meaning : List Entry → Result Commit BatchFault) (first_count : ℕ) (old new : List Entry) (before after : ℕ) (answer : Result ℕ CommitFault) → CommitSays meaning first_count old new before after answer → HasBase meaning first_count old new before after answer
base_of meaning first_count old new before after (Ok version) h =
    let a = h.0 in
    record {
      base = a.base;
      entry = Some (commit_entry a.commit);
      begins = a.begins;
      new_is = a.entries_are;
      answers = (record { commit = a.commit; whole = a.whole; makes = a.makes; entry_is = refl }, h.1);
      counted = h.2;
    }
base_of meaning first_count old new before after (Err f) h = failed_at meaning first_count old new before after f h

-- what a commit promises makes it a call
pub commit_call : (limits : Limits) (author : ℕ) (b : Batch) (first_count pass : ℕ) (old new : List Entry) (before after : ℕ) (answer : Result ℕ CommitFault) → CommitSays (becomes limits author b) first_count old new before after answer
    → (count : ℕ) × (after ≡ before + count) × IsCallOf limits first_count pass old new count
commit_call limits author b first_count pass old new before after answer says =
    let base = base_of (becomes limits author b) first_count old new before after answer says in (
      news (as_list base.entry),
      base.counted,
      record {
        call = record { pass = pass; old = old; base = base.base; begins = None; entry = base.entry };
        pass_is = refl;
        old_is = refl;
        new_is = sym base.new_is;
        count_is = refl;
        promise = (base.begins, inr (inr (inl (record { author = author; batch = b; answer = answer; answers = base.answers; begins_none = refl }))));
      },
    )

-- and what a read promises
pub read_call : (limits : Limits) (first_count pass : ℕ) (old new : List Entry) → IsPrefix old new → IsCallOf limits first_count pass old new 0
read_call limits first_count pass old new begins = record {
  call = record { pass = pass; old = old; base = new; begins = None; entry = None };
  pass_is = refl;
  old_is = refl;
  new_is = append-nil new;
  count_is = refl;
  promise = (begins, inl (record { begins_none = refl; entry_none = refl }));
}

-- what a call that tends a table promises
two_calls : (limits : Limits) (first_count pass table k version read : ℕ) (old new base : List Entry) (e : Option Entry) → has_table old table ≡ true → (r : HasRead table k version read old new) → IsPrefix r.list base → new ≡ base ++ as_list e
    → (IsReadCall (record { pass = pass; old = r.list; base = base; begins = None; entry = e }) ⊎ IsMarkCall (record { pass = pass; old = r.list; base = base; begins = None; entry = e }))
    → ((t v : ℕ) → e ≡ Some (mark_entry t v) → (t ≡ table) × (v ≡ version))
    → AreCallsOf limits first_count pass table version read old new e
two_calls limits first_count pass table k version read old new base e there r later new_is kind own =
    record {
      first = record { pass = pass; old = old; base = r.list; begins = Some table; entry = None };
      second = record { pass = pass; old = r.list; base = base; begins = None; entry = e };
      first_is = refl;
      second_is = refl;
      old_is = refl;
      begins_is = refl;
      read_is = r.read_is;
      version_is = r.version_is;
      between = append-nil r.list;
      entry_is = refl;
      new_is = sym new_is;
      first_promise = (r.begins, inr (inl (record { table = table; there = lt-ltb table (length (database_behind r.list).tables) (table_known old r.list table r.begins (ltb-true table (length (database_behind old).tables) there)); begins_is = refl; entry_none = refl })));
      second_promise = (later, by_kind kind);
      marks = λ state p begun t v is.
          let same = own t v is in
          let built : HasBuild state pass table (version_after r.list) = build_there state pass table r.list p (subst (λ n. HasBegun state pass table n) r.read_is begun) in
          subst (λ (z : ℕ × ℕ). HasBuild state pass z.0 z.1) (λ i. (sym same.0 i, (sym r.version_is ∙ sym same.1) i)) built;
    } where
      by_kind : (IsReadCall (record { pass = pass; old = r.list; base = base; begins = None; entry = e }) ⊎ IsMarkCall (record { pass = pass; old = r.list; base = base; begins = None; entry = e }))
          → (IsReadCall (record { pass = pass; old = r.list; base = base; begins = None; entry = e }) ⊎ (IsBeginCall (record { pass = pass; old = r.list; base = base; begins = None; entry = e }) ⊎ (IsCommitCall limits first_count (record { pass = pass; old = r.list; base = base; begins = None; entry = e }) ⊎ IsMarkCall (record { pass = pass; old = r.list; base = base; begins = None; entry = e }))))
      by_kind (inl a) = inl a
      by_kind (inr b) = inr (inr (inr b))

pub tend_calls : (limits : Limits) (first_count pass table k : ℕ) (old new : List Entry) (answer : Result Tended TendFault) → has_table old table ≡ true → TendSays table k old new answer → AreCallsOfTend limits first_count pass table old new answer
tend_calls limits first_count pass table k old new (Ok tended.NotDue) there h = read_call limits first_count pass old new h.0
tend_calls limits first_count pass table k old new (Ok (tended.Built v r)) there h =
    two_calls limits first_count pass table k v r old new h.1.base (Some (mark_entry table v)) there h.0 h.1.begins h.1.entries_are
    (inr (record { table = table; version = v; begins_none = refl; entry_is = refl })) (λ t u is. (cc, cc))
tend_calls limits first_count pass table k old new (Ok (tended.Had v r)) there h =
    two_calls limits first_count pass table k v r old new new None there h.0 h.0.later (sym (append-nil new)) (inl (record { begins_none = refl; entry_none = refl })) (λ t u is. absurd (cc))
tend_calls limits first_count pass table k old new (Err (tend_fault.Broken v r)) there h =
    two_calls limits first_count pass table k v r old new new None there h.0 h.0.later (sym (append-nil new)) (inl (record { begins_none = refl; entry_none = refl })) (λ t u is. absurd (cc))
tend_calls limits first_count pass table k old new (Err tend_fault.NoMemory) there h = read_call limits first_count pass old new h

-- UNDER THE LOCK

-- where the commit, or its break, is written and published
pub write_effect : {D : Type 0} (faults : D → ℕ) (meaning : List Entry → Result Commit BatchFault) (first_count : ℕ) (mid last : plain.History D) (c : Commit) (written more seen now next broken shown : List Entry) (answer : Result ℕ CommitFault)
    → IfOk answer (λ v. (last.entries ≡ mid.entries ++ commit_entry c ∷ []) × (v ≡ version_of mid + 1)) → IfErr answer (WriteFails faults c mid last)
    → next ≡ mid.entries ++ commit_entry c ∷ [] → broken ≡ mid.entries ++ break_entry c ∷ [] → Some shown ≡ shown_by answer next broken → more ≡ shown → now ≡ more
    → mid.entries ≡ written → has_break mid.entries ≡ false → meaning mid.entries ≡ Ok c → mid.first_count ≡ first_count → IsPrefix seen written
    → TakesEffect meaning first_count written more seen now answer
write_effect faults meaning first_count mid last c written more seen now next broken shown (Ok v) ok err next_is broken_is chosen more_is now_is at whole makes first begins =
    let e : shown ≡ next = cc in
    record {
      entry = Some (commit_entry c);
      begins = begins;
      more_is = more_is ∙ (e ∙ (next_is ∙ ap (λ es. es ++ commit_entry c ∷ []) at));
      new_is = now_is;
      answers = (record { commit = c; whole = ap has_break (sym at) ∙ whole; makes = ap meaning (sym at) ∙ makes; entry_is = refl }, ok.1 ∙ ap (λ es. version_after es + 1) at);
    }
write_effect faults meaning first_count mid last c written more seen now next broken shown (Err (fault.Broken version)) ok err next_is broken_is chosen more_is now_is at whole makes first begins = absurd err
write_effect faults meaning first_count mid last c written more seen now next broken shown (Err (fault.Refused version refusal)) ok err next_is broken_is chosen more_is now_is at whole makes first begins = absurd err
write_effect faults meaning first_count mid last c written more seen now next broken shown (Err fault.NoMemory) ok err next_is broken_is chosen more_is now_is at whole makes first begins = absurd (cc)
write_effect faults meaning first_count mid last c written more seen now next broken shown (Err (fault.Device version count)) ok err next_is broken_is chosen more_is now_is at whole makes first begins =
    let e : shown ≡ broken = cc in
    record {
      entry = Some (break_entry c);
      begins = begins;
      more_is = more_is ∙ (e ∙ (broken_is ∙ ap (λ es. es ++ break_entry c ∷ []) at));
      new_is = now_is;
      answers = (record { commit = c; whole = ap has_break (sym at) ∙ whole; makes = ap meaning (sym at) ∙ makes; entry_is = refl }, err.1 ∙ ap version_after at, subst (λ n. Rose n count) first err.3);
    }

-- RUNS

leads_on : (a b c : World) (s t : List Step) → LeadTo a s b → LeadTo b t c → LeadTo a (s ++ t) c
leads_on a b c [] t h k = subst (λ w. LeadTo w t c) (sym h) k
leads_on a b c (x ∷ s) t h k = (h.0, leads_on (after_step a x) b c s t h.1 k)

-- steps that are all allowed are not passed over
leads_is : (a b : World) (s : List Step) → LeadTo a s b → after_steps a s ≡ b
leads_is a b [] h = h
leads_is a b (x ∷ s) h =
    let one : after_allowed a x ≡ after_step a x = ap (λ t. cond t (after_step a x) a) h.0 in
    ap (λ w. after_steps w s) one ∙ leads_is (after_step a x) b s h.1

-- what the calls of a run come to
pub record ComesTo (last : List Entry) (old : HeadState) (calls : List Call) : Type 0 where
  pub legal : IsLegalState (after_calls old calls)
  pub begins : IsPrefix (after_calls old calls).written last
  pub leads : LeadTo (world_of old) (steps_of_calls calls) (world_of (after_calls old calls))
  pub counted : news (after_calls old calls).written ≡ news old.written + news_of_calls calls

comes_to : (limits : Limits) (first_count : ℕ) (last : List Entry) (calls : List Call) (state : HeadState) → are_legal last ≡ true → IsLegalState state → IsPrefix state.written last → IsRun limits first_count last state calls → ComesTo last state calls
comes_to limits first_count last [] state l h p r = record { legal = h; begins = p; leads = refl; counted = sym (plus_none (news state.written)) }
comes_to limits first_count last (call ∷ calls) state l h p r =
    let base_begins : IsPrefix call.base last = begins_on call.base (seen_after call) last (as_list call.entry, refl) r.2 in
    let base : call.base ≡ state.written = same_length call.base state.written last base_begins p r.0.count in
    let one = call_steps state call limits first_count h (record { pass = r.0.pass; base = base; promise = r.1; marks = r.0.marks; legal = legal_begin (seen_after call) last r.2 l }) in
    let rest = comes_to limits first_count last calls (after_call state call) l one.legal r.2 r.3 in
    record {
      legal = rest.legal;
      begins = rest.begins;
      leads = leads_on (world_of state) (world_of (after_call state call)) (world_of (after_calls (after_call state call) calls)) (steps_of call) (steps_of_calls calls) one.leads rest.leads;
      counted = omega (arith, rest.counted, news_split call.base (as_list call.entry), ap news base);
    }

pub run_steps : (limits : Limits) (first_count : ℕ) (last : List Entry) (state : HeadState) (calls : List Call) → are_legal last ≡ true → IsLegalState state → IsPrefix state.written last → IsRun limits first_count last state calls → IsRunOfWorld last state calls
run_steps limits first_count last state calls l h p r =
    let c = comes_to limits first_count last calls state l h p r in
    record {
      legal = c.legal;
      begins = c.begins;
      leads = c.leads;
      counted = c.counted;
      goes_on = subst (λ w. GoesOn (world_of state) w) (leads_is (world_of state) (world_of (after_calls state calls)) (steps_of_calls calls) c.leads)
          (goes_on (world_of state) (steps_of_calls calls) (world_is_legal state h));
    }

-- UNDER THE LOCK, AND AT THE DOOR

-- a commit publishes no mark
no_mark_failed : (meaning : List Entry → Result Commit BatchFault) (first_count : ℕ) (base : List Entry) (entry : Option Entry) (f : CommitFault) → FailsOver meaning first_count base entry f → (t v : ℕ) → entry ≡ Some (variant.Mark t v) → ⊥
no_mark_failed meaning first_count base entry (fault.Broken version) h t v e = let n = h.2 in absurd (cc)
no_mark_failed meaning first_count base entry (fault.Refused version refusal) h t v e = let n = h.2 in absurd (cc)
no_mark_failed meaning first_count base entry fault.NoMemory h t v e = absurd (cc)
no_mark_failed meaning first_count base entry (fault.Device version count) h t v e = let n = h.0.entry_is in absurd (cc)

no_mark : (meaning : List Entry → Result Commit BatchFault) (first_count : ℕ) (base : List Entry) (entry : Option Entry) (answer : Result ℕ CommitFault) → AnswersOver meaning first_count base entry answer → (t v : ℕ) → entry ≡ Some (variant.Mark t v) → ⊥
no_mark meaning first_count base entry (Ok version) h t v e = let n = h.0.entry_is in absurd (cc)
no_mark meaning first_count base entry (Err f) h t v e = no_mark_failed meaning first_count base entry f h t v e

-- and the mark of a checkpoint is that mark
own_mark : (table version read : ℕ) (base : List Entry) (entry : Option Entry) (answer : Result Tended TendFault) → MarkAnswersOver table version read base entry answer → (t v : ℕ) → entry ≡ Some (variant.Mark t v) → (t ≡ table) × (v ≡ version)
own_mark table version read base entry (Ok tended.NotDue) h t v e = absurd h
own_mark table version read base entry (Ok (tended.Built n r)) h t v e = let m = h.4 in (cc, cc)
own_mark table version read base entry (Ok (tended.Had n r)) h t v e = let m = h.4 in absurd (cc)
own_mark table version read base entry (Err (tend_fault.Broken n r)) h t v e = let m = h.3 in absurd (cc)
own_mark table version read base entry (Err tend_fault.NoMemory) h t v e = absurd (cc)

locked : (state : HeadState) (call : Call) (more new : List Entry) → IsLegalState state → seen_in state call.pass ≡ Some call.old → call.base ≡ state.written → call.begins ≡ None → MarksItsBuild state call
    → more ≡ state.written ++ as_list call.entry → new ≡ more → are_legal new ≡ true → IsAllowed state call (left_by state call more new)
locked state call more new h at base begins marks more_is same legal =
    let more_after : more ≡ seen_after call = more_is ∙ ap (λ es. es ++ as_list call.entry) (sym base) in
    let new_after : new ≡ seen_after call = same ∙ more_after in
    let all = steps_in state call h at base (λ t e. absurd (cc)) marks (subst (λ es. are_legal es ≡ true) new_after legal) in
    subst (λ (z : List Entry × List Entry). IsAllowed state call (left_by state call z.0 z.1)) (λ i. (sym more_after i, sym new_after i)) all

pub locked_steps : (meaning : List Entry → Result Commit BatchFault) (first_count : ℕ) (state : HeadState) (pass : ℕ) (more old new : List Entry) (answer : Result ℕ CommitFault)
    → (e : TakesEffect meaning first_count state.written more old new answer) → IsLegalState state → seen_in state pass ≡ Some old → are_legal new ≡ true
    → (call : Call) → call ≡ record { pass = pass; old = old; base = state.written; begins = None; entry = e.entry } → IsAllowed state call (left_by state call more new)
locked_steps meaning first_count state pass more old new answer e h at legal call is =
    subst (λ (c : Call). IsAllowed state c (left_by state c more new)) (sym is)
    (locked state (record { pass = pass; old = old; base = state.written; begins = None; entry = e.entry }) more new h at refl refl
    (λ t v m. absurd (no_mark meaning first_count state.written e.entry answer e.answers t v m)) e.more_is e.new_is legal)

pub locked_mark : (table version read : ℕ) (state : HeadState) (pass : ℕ) (more old new : List Entry) (answer : Result Tended TendFault)
    → (e : MarkTakesEffect table version read state.written more old new answer) → IsLegalState state → seen_in state pass ≡ Some old → HasBuild state pass table version → are_legal new ≡ true
    → (call : Call) → call ≡ record { pass = pass; old = old; base = state.written; begins = None; entry = e.entry } → IsAllowed state call (left_by state call more new)
locked_mark table version read state pass more old new answer e h at built legal call is =
    subst (λ (c : Call). IsAllowed state c (left_by state c more new)) (sym is)
    (locked state (record { pass = pass; old = old; base = state.written; begins = None; entry = e.entry }) more new h at refl refl
    (λ t v m. let same = own_mark table version read state.written e.entry answer e.answers t v m in
    subst (λ (z : ℕ × ℕ). HasBuild state pass z.0 z.1) (λ i. (sym same.0 i, sym same.1 i)) built) e.more_is e.new_is legal)

seats_begin : (es : List Entry) (vs : List View) → ((j : ℕ) (v : View) → get_elem? vs j ≡ some v → IsPrefix v.seen es) → AllByRecursion (IsSeenOf es) (map (λ (v : View). record { seen = v.seen; build = None }) vs)
seats_begin es [] h = tt
seats_begin es (v ∷ vs) h = (record { begins = h 0 v refl; based = tt }, seats_begin es vs (λ j w e. h (suc j) w e))

home_is : {V : Type 0} (entries : V → List Entry) (out : Bool) (written : List Entry) (homes : List (Homes (Option V))) → FitsSlot entries out written homes → out ≡ false → (x : V) × (homes ≡ some (Some x) ∷ []) × (entries x ≡ written)
home_is entries true written homes h e = absurd (cc)
home_is entries false written homes h e = h

pub table_shows : {V : Type 0} (entries : V → List Entry) (d : DoorState) (s : State (Option V) View) → FitsTable entries d s → are_legal d.written ≡ true → ShowsWorld entries d s
table_shows entries d s f l =
    let h : IsLegalState (state_of d s) = record {
      legal = l;
      passes = All-from_recursion (IsSeenOf d.written) (map (λ (v : View). record { seen = v.seen; build = None }) s.views) (seats_begin d.written s.views (λ j v e. (f.each_seat j v e).seen));
    } in
    record {
      state = h;
      legal = world_is_legal (state_of d s) h;
      word = ap (λ ws. slice_get ws 2) f.words;
      home = home_is entries d.out d.written s.homes f.slot;
      writer = λ v e w. ((f.each_seat 0 v e).writes w).1;
    }
