-- A follower whose packets come from a leader.
use Rattle.std.proofs.Common.{◌≡◌, ℕ, zero, suc, ◌+◌, ◌-◌, ◌<◌, ◌≤◌, Bool, true, false, ◌==◌, List, [], ◌∷◌, ◌++◌, length, Option, Some, None, IsSome, is_some, slice_get, take, fold, refl, sym, ap, ◌∙◌, subst, arith, length-append, append_assoc}
use Rattle.std.specs.List.{AllByRecursion}
use Rattle.std.proofs.lemmas.Bool.Decides.{nat_tests}
use Rattle.tl_types.specs.declared.commits.Commit.{Commit}
use Rattle.tl_types.specs.declared.limits.Limits.{Limits}
use Rattle.tl_types.specs.declared.commits.Entry.{Entry}
use Rattle.tl_types.specs.declared.answers.Field.{Field}
use Rattle.tl_types.specs.Entries.{commits_of}
use Rattle.tl_types.specs.History.{database_of, database_at, nothing, after_commit, fits}
use Rattle.tl_types.specs.Plain as plain
use Rattle.tl_types.specs.Legality.{FitFrom}
use Rattle.tl_query.specs.declared.typed_queries.Typed.{Typed}
use Rattle.tl_query.specs.Answers.{answer_of}
use Rattle.tl_follow.specs.declared.packets.Packet.{Packet}
use Rattle.tl_follow.specs.Following.{IsPrefixOf, first_of, next_of, with_next, commits_after, followed, IsStuck, Following, commits_in, IsFollowing}
use Rattle.tl_follow.specs.Leading.{IsOf, AreFrom, IsLed}
use Rattle.tl_follow.proofs.Growing.{prefix_trans, next_from, next_is, ends}

-- the first packet of a version is the leader's commit
first_is_of : (leader : List Commit) (packets : List Packet) (v : ℕ) (c : Commit) → AllByRecursion (IsOf leader) packets → first_of v packets ≡ Some c → (1 ≤ v) × (slice_get leader (v - 1) ≡ Some c)
first_is_of leader [] v c all e = absurd (cc)
first_is_of leader (p ∷ packets) v c all e = by_test (p.version == v) refl (λ q. first_is_of leader packets v c all.1 q) where
  by_test : (t : Bool) → (p.version == v) ≡ t → (first_of v packets ≡ Some c → (1 ≤ v) × (slice_get leader (v - 1) ≡ Some c)) → (1 ≤ v) × (slice_get leader (v - 1) ≡ Some c)
  by_test true t h =
      let s : p.version ≡ v = grind (arith, nat_tests) in
      let q : Some p.commit ≡ Some c = (let r : first_of v (p ∷ packets) ≡ Some p.commit = rw t refl in sym r ∙ e) in
      subst (λ n. (1 ≤ n) × (slice_get leader (n - 1) ≡ Some c)) s (all.0.0, all.0.1 ∙ q)
  by_test false t h =
      let q : first_of v packets ≡ Some c = (let r : first_of v (p ∷ packets) ≡ first_of v packets = rw t refl in sym r ∙ e) in
      h q

-- the leader's commit behind a front
pub get_past : (front more : List Commit) → slice_get (front ++ more) (length front) ≡ slice_get more 0
get_past [] more = refl
get_past (x ∷ front) more = get_past front more

front_more : (front more : List Commit) (c : Commit) → slice_get (front ++ more) (length front) ≡ Some c → IsPrefixOf (front ++ c ∷ []) (front ++ more)
front_more front [] c e = absurd (let s = sym (get_past front []) ∙ e in cc)
front_more front (d ∷ more) c e =
    let s : Some d ≡ Some c = sym (get_past front (d ∷ more)) ∙ e in
    let q : d ≡ c = cc in
    (more, ap (λ x. front ++ x ∷ more) q ∙ sym (append_assoc front (c ∷ []) more))

fit_at : (limits : Limits) (db : plain.Database) (before : List Commit) (c : Commit) (later : List Commit) → FitFrom limits db (before ++ c ∷ later) → fits limits (fold after_commit db before) c ≡ true
fit_at limits db [] c later fitting = fitting.0
fit_at limits db (d ∷ before) c later fitting = fit_at limits (after_commit db d) before c later fitting.1

-- a first packet of the next version fits, and leads along the leader's commits
pub along_one : (limits : Limits) (leader start : List Commit) (packets : List Packet) (cs : List Commit) (c : Commit) → AreFrom limits leader start packets → IsPrefixOf cs leader → first_of (length cs + 1) packets ≡ Some c → IsPrefixOf (cs ++ c ∷ []) leader × (fits limits (database_of cs) c ≡ true)
along_one limits leader start packets cs c from a e =
    let o = first_is_of leader packets (length cs + 1) c from.each e in
    let n : length cs + 1 - 1 ≡ length cs = omega arith in
    let at : slice_get (cs ++ a.0) (length cs) ≡ Some c = ap (λ l. slice_get l (length cs)) (sym a.1) ∙ ap (slice_get leader) (sym n) ∙ o.1 in
    let p = front_more cs a.0 c at in
    let whole : leader ≡ cs ++ (c ∷ p.0) = a.1 ∙ p.1 ∙ append_assoc cs (c ∷ []) p.0 in
    ((p.0, a.1 ∙ p.1), fit_at limits nothing cs c p.0 (subst (λ l. FitFrom limits nothing l) whole from.fit))

pub along : (limits : Limits) (leader start : List Commit) (packets : List Packet) → AreFrom limits leader start packets → (n : ℕ) (cs : List Commit) → IsPrefixOf cs leader → IsPrefixOf (commits_after limits packets n cs) leader
along limits leader start packets from zero cs a = a
along limits leader start packets from (suc n) cs a = by_next (next_of limits packets cs) refl (along limits leader start packets from n cs a) (λ c. along limits leader start packets from n (cs ++ c ∷ [])) where
  by_next : (o : Option Commit) → next_of limits packets cs ≡ o → IsPrefixOf (commits_after limits packets n cs) leader → ((c : Commit) → IsPrefixOf (cs ++ c ∷ []) leader → IsPrefixOf (commits_after limits packets n (cs ++ c ∷ [])) leader) → IsPrefixOf (commits_after limits packets (suc n) cs) leader
  by_next None e h k = subst (λ o. IsPrefixOf (commits_after limits packets n (with_next cs o)) leader) (sym e) h
  by_next (Some c) e h k = subst (λ o. IsPrefixOf (commits_after limits packets n (with_next cs o)) leader) (sym e) (k c (along_one limits leader start packets cs c from a (next_from limits packets cs c e).0).0)

-- each version that is reached has a packet
each_reached : (limits : Limits) (packets : List Packet) (n : ℕ) (cs : List Commit) (v : ℕ) → length cs < v → v ≤ length (commits_after limits packets n cs) → IsSome (first_of v packets)
each_reached limits packets zero cs v l u = absurd (omega (arith, l, u))
each_reached limits packets (suc n) cs v l u = by_next (next_of limits packets cs) refl (each_reached limits packets n cs v l) (λ c. each_reached limits packets n (cs ++ c ∷ []) v) where
  by_next : (o : Option Commit) → next_of limits packets cs ≡ o → (v ≤ length (commits_after limits packets n cs) → IsSome (first_of v packets)) → ((c : Commit) → length (cs ++ c ∷ []) < v → v ≤ length (commits_after limits packets n (cs ++ c ∷ [])) → IsSome (first_of v packets)) → IsSome (first_of v packets)
  by_next None e h k = h (subst (λ o. v ≤ length (commits_after limits packets n (with_next cs o))) e u)
  by_next (Some c) e h k = by_here (length cs + 1 == v) refl where
    by_here : (t : Bool) → (length cs + 1 == v) ≡ t → IsSome (first_of v packets)
    by_here true t =
        let s : length cs + 1 ≡ v = grind (arith, nat_tests) in
        let f : first_of v packets ≡ Some c = ap (λ w. first_of w packets) (sym s) ∙ (next_from limits packets cs c e).0 in
        ap is_some f
    by_here false t =
        let a = length-append cs (c ∷ []) in
        let l' : length cs + 1 < v = grind (arith, nat_tests) in
        let l'' : length (cs ++ c ∷ []) < v = omega (arith, l', a) in
        k c l'' (subst (λ o. v ≤ length (commits_after limits packets n (with_next cs o))) e u)

never_stuck : (limits : Limits) (leader start : List Commit) (packets : List Packet) → AreFrom limits leader start packets → (cs : List Commit) → IsPrefixOf cs leader → IsStuck limits packets cs → ⊥
never_stuck limits leader start packets from cs a s =
    let o = along_one limits leader start packets cs s.0 from a s.1 in
    absurd (let e : true ≡ false = sym o.1 ∙ s.2 in cc)

pub is_led : (limits : Limits) (leader start : List Commit) (packets : List Packet) → AreFrom limits leader start packets → IsLed limits leader start packets
is_led limits leader start packets from =
    let end = followed limits start packets in
    let a = along limits leader start packets from (length packets) start from.begins in
    record {
      along = a;
      never_stuck = λ cs front l. never_stuck limits leader start packets from cs (prefix_trans cs end leader front a);
      each = λ v l u. each_reached limits packets (length packets) start v l u;
      next = by_first (first_of (length end + 1) packets) refl a;
    } where
      by_first : (o : Option Commit) → first_of (length (followed limits start packets) + 1) packets ≡ o → IsPrefixOf (followed limits start packets) leader → first_of (length (followed limits start packets) + 1) packets ≡ None
      by_first None e a = e
      by_first (Some c) e a =
          let fit = (along_one limits leader start packets (followed limits start packets) c from a e).1 in
          let n = next_is limits packets (followed limits start packets) c e fit in
          absurd (let s = sym n ∙ ends limits packets start in cc)

pub each_moment : (leader : List Commit) (start : List Entry) (packets : List Packet) (f : Following) → AreFrom f.limits leader (commits_of start) packets → IsFollowing start packets f → IsPrefixOf (commits_in f) leader
each_moment leader start packets f from h =
    prefix_trans (commits_in f) (followed f.limits (commits_of start) packets) leader h.leads (is_led f.limits leader (commits_of start) packets from).along

-- THE LEADER'S TABLES

take_front : (xs ys : List Commit) → take (length xs) (xs ++ ys) ≡ xs
take_front [] ys = refl
take_front (x ∷ xs) ys = ap (λ l. x ∷ l) (take_front xs ys)

front_is : (front leader : List Commit) → IsPrefixOf front leader → front ≡ take (length front) leader
front_is front leader a = sym (ap (take (length front)) a.1 ∙ take_front front a.0)

pub same_tables : (leader : List Commit) (start : List Entry) (packets : List Packet) (f : Following) → AreFrom f.limits leader (commits_of start) packets → IsFollowing start packets f → database_of (commits_in f) ≡ database_at leader (length (commits_in f))
same_tables leader start packets f from h = ap database_of (front_is (commits_in f) leader (each_moment leader start packets f from h))

pub same_answers : (leader : List Commit) (start : List Entry) (packets : List Packet) (f : Following) (query : Typed) (rows : List (List Field)) → AreFrom f.limits leader (commits_of start) packets → IsFollowing start packets f → rows ≡ answer_of (database_of (commits_in f)) query → rows ≡ answer_of (database_at leader (length (commits_in f))) query
same_answers leader start packets f query rows from h is = is ∙ ap (λ db. answer_of db query) (same_tables leader start packets f from h)
