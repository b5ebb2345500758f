-- What a follower holds, and what taking a packet keeps of it.
use Rattle.std.proofs.Common.{◌≡◌, ℕ, ◌<◌, Bool, true, false, ◌&&◌, not, cond, nat_lt, ◌==◌, if◌then◌else◌, List, [], ◌∷◌, ◌++◌, length, map, Option, Some, None, is_some, Result, Ok, Err, OnOk, OnErr, refl, sym, ap, ◌∙◌, subst, arith, append_assoc, append-nil, Ordering, Less, Equal, Greater, nat_cmp}
use Rattle.std.specs.Map.{lookup, remove_entry}
use Rattle.std.specs.BTreeMap.{is_at, insert_entry}
use Rattle.std.proofs.lemmas.List.{map-append}
use Rattle.std.proofs.lemmas.Bool.Decides.{nat_tests}
use Rattle.tl_types.specs.declared.commits.Commit.{Commit}
use Rattle.tl_types.specs.declared.commits.Entry.{Entry}
use Rattle.tl_types.specs.declared.limits.Limits.{Limits}
use Rattle.tl_types.specs.Entries.{commits_of}
use Rattle.tl_types.proofs.EntryLemmas.{commits_of-append}
use Rattle.tl_index.specs.Snapshots.{commit_entry}
use Rattle.tl_follow.specs.declared.packets.Packet.{Packet}
use Rattle.tl_follow.specs.Following.{IsPrefixOf, first_of, commits_after, followed, Following, commits_in, held_at, AddsCommits, IsFollowing}
use Rattle.tl_follow.specs.Calls.{is_new, after_take, follower_of}
use Rattle.tl_follow.proofs.Growing.{prefix_refl, first_more, reaches, reaches_more, grown_leads}

-- THE MAP OF WHAT IS HELD

at_key : (v k : ℕ) → is_at (nat_cmp v) k ≡ (k == v)
at_key v k = grind (arith, nat_tests)

same_key : (k e : ℕ) → nat_cmp k e ≡ Equal → e ≡ k
same_key k e q = grind (arith, nat_tests)

other_key : (k e : ℕ) → nat_cmp k e ≡ Greater → (e == k) ≡ false
other_key k e q = grind (arith, nat_tests)

-- one over the other, where one of two tests is not passed
turned : (a b : Bool) (x y : Option Commit) (z : Option Commit) → (a ≡ true → b ≡ true → ⊥) → cond a x (cond b y z) ≡ cond b y (cond a x z)
turned true true x y z h = absurd (h refl refl)
turned true false x y z h = refl
turned false true x y z h = refl
turned false false x y z h = refl

hidden : (a : Bool) (x y z : Option Commit) → cond a x (cond a y z) ≡ cond a x z
hidden true x y z = refl
hidden false x y z = refl

pub held_insert : (es : List (ℕ × Commit)) (k : ℕ) (x : Commit) (v : ℕ) → lookup (is_at (nat_cmp v)) (insert_entry nat_cmp es k x) ≡ (if k == v then Some x else lookup (is_at (nat_cmp v)) es)
held_insert [] k x v = ap (λ b. cond b (Some x) None) (at_key v k)
held_insert (e ∷ es) k x v = by_cmp (nat_cmp k e.0) refl (held_insert es k x v) where
  rest : Option Commit
  rest = lookup (is_at (nat_cmp v)) es

  by_cmp : (o : Ordering) → nat_cmp k e.0 ≡ o → lookup (is_at (nat_cmp v)) (insert_entry nat_cmp es k x) ≡ (if k == v then Some x else lookup (is_at (nat_cmp v)) es) → lookup (is_at (nat_cmp v)) (insert_entry nat_cmp (e ∷ es) k x) ≡ (if k == v then Some x else lookup (is_at (nat_cmp v)) (e ∷ es))
  by_cmp Less q h = rw q (ap (λ b. cond b (Some x) (lookup (is_at (nat_cmp v)) (e ∷ es))) (at_key v k))
  by_cmp Equal q h =
      let s : is_at (nat_cmp v) e.0 ≡ (k == v) = ap (λ n. is_at (nat_cmp v) n) (same_key k e.0 q) ∙ at_key v k in
      rw q (ap (λ b. cond b (Some x) rest) s ∙ sym (hidden (k == v) (Some x) (Some e.1) rest) ∙ ap (λ b. cond (k == v) (Some x) (cond b (Some e.1) rest)) (sym s))
  by_cmp Greater q h =
      let apart = other_key k e.0 q in
      rw q (ap (λ o. cond (is_at (nat_cmp v) e.0) (Some e.1) o) h
      ∙ turned (is_at (nat_cmp v) e.0) (k == v) (Some e.1) (Some x) rest (λ a b. let a' : (e.0 == v) ≡ true = sym (at_key v e.0) ∙ a in grind (arith, nat_tests)))

pub held_remove : (es : List (ℕ × Commit)) (k v : ℕ) → (k == v) ≡ false → lookup (is_at (nat_cmp v)) (remove_entry (is_at (nat_cmp k)) es) ≡ lookup (is_at (nat_cmp v)) es
held_remove [] k v n = refl
held_remove (e ∷ es) k v n = by_test (e.0 == k) refl (held_remove es k v n) where
  by_test : (t : Bool) → (e.0 == k) ≡ t → lookup (is_at (nat_cmp v)) (remove_entry (is_at (nat_cmp k)) es) ≡ lookup (is_at (nat_cmp v)) es → lookup (is_at (nat_cmp v)) (remove_entry (is_at (nat_cmp k)) (e ∷ es)) ≡ lookup (is_at (nat_cmp v)) (e ∷ es)
  by_test true t h =
      let s : is_at (nat_cmp k) e.0 ≡ true = at_key k e.0 ∙ t in
      let o : is_at (nat_cmp v) e.0 ≡ false = at_key v e.0 ∙ (let r : (e.0 == v) ≡ false = grind (arith, nat_tests) in r) in
      rw (s, o) refl
  by_test false t h =
      let s : is_at (nat_cmp k) e.0 ≡ false = at_key k e.0 ∙ t in
      rw s (ap (λ o. cond (is_at (nat_cmp v) e.0) (Some e.1) o) h)

-- THE ENTRIES

pub commits_of_commits : (cs : List Commit) → commits_of (map commit_entry cs) ≡ cs
commits_of_commits [] = refl
commits_of_commits (c ∷ cs) = ap (λ l. c ∷ l) (commits_of_commits cs)

pub commits_added : (start : List Entry) (cs : List Commit) → commits_of (start ++ map commit_entry cs) ≡ commits_of start ++ cs
commits_added start cs = commits_of-append start (map commit_entry cs) ∙ ap (λ l. commits_of start ++ l) (commits_of_commits cs)

pub one_commit_more : (entries : List Entry) (c : Commit) → commits_of (entries ++ commit_entry c ∷ []) ≡ commits_of entries ++ c ∷ []
one_commit_more entries c = commits_of-append entries (commit_entry c ∷ [])

pub prefix_of_added : (start entries : List Entry) → AddsCommits start entries → IsPrefixOf (commits_of start) (commits_of entries)
prefix_of_added start entries a = (a.0, ap commits_of a.1 ∙ commits_added start a.0)

pub adds_none : (start : List Entry) → AddsCommits start start
adds_none start = ([], sym (append-nil start))

pub adds_more : (start entries : List Entry) (c : Commit) → AddsCommits start entries → AddsCommits start (entries ++ commit_entry c ∷ [])
adds_more start entries c a = (
  a.0 ++ c ∷ [],
  ap (λ l. l ++ commit_entry c ∷ []) a.1 ∙ append_assoc start (map commit_entry a.0) (commit_entry c ∷ [])
      ∙ ap (λ l. start ++ l) (sym (map-append commit_entry a.0 (c ∷ []))),
)

-- TAKING

and_not : (a b : Bool) → (a && not b) ≡ true → b ≡ false
and_not true true h = absurd (cc)
and_not true false h = refl
and_not false b h = absurd (cc)

pub not_and : (a b : Bool) → (a && not b) ≡ false → a ≡ true → b ≡ true
not_and a true h e = refl
not_and true false h e = absurd (cc)
not_and false false h e = absurd (cc)

pick_new : (o : Option Commit) (b : Bool) (c : Commit) → (b ≡ true → is_some o ≡ false) → (if b then Some c else o) ≡ (if is_some o then o else (if b then Some c else None))
pick_new None true c h = refl
pick_new None false c h = refl
pick_new (Some d) true c h = absurd (let f = h refl in cc)
pick_new (Some d) false c h = refl

pick_known : (o : Option Commit) (b : Bool) (c : Commit) → (b ≡ true → is_some o ≡ true) → o ≡ (if is_some o then o else (if b then Some c else None))
pick_known None true c h = absurd (let f = h refl in cc)
pick_known None false c h = refl
pick_known (Some d) b c h = refl

leads_more : (limits : Limits) (start : List Commit) (packets : List Packet) (p : Packet) (cs : List Commit) → IsPrefixOf start cs → IsPrefixOf cs (followed limits start packets) → IsPrefixOf cs (followed limits start (packets ++ p ∷ []))
leads_more limits start packets p cs a b =
    let r = reaches limits packets (length packets) start cs a b in
    let m = reaches_more limits packets p r.0 start in
    let e : cs ≡ commits_after limits (packets ++ p ∷ []) m.0 start = r.1 ∙ m.1 in
    subst (λ l. IsPrefixOf l (followed limits start (packets ++ p ∷ []))) (sym e) (grown_leads limits (packets ++ p ∷ []) m.0 start)

pub take_follows : (f : Following) (start : List Entry) (packets : List Packet) (p : Packet) → IsFollowing start packets f → IsFollowing start (packets ++ p ∷ []) (after_take f p)
take_follows f start packets p h = by_new (is_new f p) refl where
  more : IsPrefixOf (commits_in f) (followed f.limits (commits_of start) (packets ++ p ∷ []))
  more = leads_more f.limits (commits_of start) packets p (commits_in f) (prefix_of_added start f.entries h.begins) h.leads

  first : (v : ℕ) → length (commits_in f) < v → first_of v (packets ++ p ∷ []) ≡ (if is_some (held_at v f) then held_at v f else (if p.version == v then Some p.commit else None))
  first v l = first_more v packets p (held_at v f) (sym (h.holds v l))

  by_new : (t : Bool) → is_new f p ≡ t → IsFollowing start (packets ++ p ∷ []) (after_take f p)
  by_new true t =
      let e : after_take f p ≡ record f { held = insert_entry nat_cmp f.held p.version p.commit } = rw t refl in
      let none = and_not (nat_lt (length (commits_in f)) p.version) (is_some (held_at p.version f)) t in
      subst (λ g. IsFollowing start (packets ++ p ∷ []) g) (sym e)
      (record {
        begins = h.begins;
        leads = more;
        holds = λ v l. held_insert f.held p.version p.commit v
            ∙ pick_new (held_at v f) (p.version == v) p.commit (λ b. let s : p.version ≡ v = grind (arith, nat_tests) in ap (λ n. is_some (held_at n f)) (sym s) ∙ none)
            ∙ sym (first v l);
      })
  by_new false t =
      let e : after_take f p ≡ f = rw t refl in
      subst (λ g. IsFollowing start (packets ++ p ∷ []) g) (sym e)
      (record {
        begins = h.begins;
        leads = more;
        holds = λ v l. pick_known (held_at v f) (p.version == v) p.commit
            (λ b. let s : p.version ≡ v = grind (arith, nat_tests) in
            let over : nat_lt (length (commits_in f)) p.version ≡ true = grind (arith, nat_tests) in
            ap (λ n. is_some (held_at n f)) (sym s) ∙ not_and (nat_lt (length (commits_in f)) p.version) (is_some (held_at p.version f)) t over)
            ∙ sym (first v l);
      })

pub start_follows : (limits : Limits) (start : List Entry) → IsFollowing start [] (follower_of limits start)
start_follows limits start = record { begins = adds_none start; leads = prefix_refl (commits_of start); holds = λ v l. refl }

pub take_limits : (f : Following) (p : Packet) → (after_take f p).limits ≡ f.limits
take_limits f p = by_new (is_new f p) refl where
  by_new : (t : Bool) → is_new f p ≡ t → (after_take f p).limits ≡ f.limits
  by_new true t = rw t refl
  by_new false t = rw t refl

take_entries : (f : Following) (p : Packet) → (after_take f p).entries ≡ f.entries
take_entries f p = by_new (is_new f p) refl where
  by_new : (t : Bool) → is_new f p ≡ t → (after_take f p).entries ≡ f.entries
  by_new true t = rw t refl
  by_new false t = rw t refl

-- WHAT THE CALL SAYS

pub taken_limits : {X E : Type 0} (r : Result X E) (f g : Following) (p : Packet) → OnOk r (g ≡ after_take f p) → OnErr r (g ≡ f) → g.limits ≡ f.limits
taken_limits (Ok t) f g p a b = ap (λ k. k.limits) a ∙ take_limits f p
taken_limits (Err e) f g p a b = ap (λ k. k.limits) b

pub taken_entries : {X E : Type 0} (r : Result X E) (f g : Following) (p : Packet) → OnOk r (g ≡ after_take f p) → OnErr r (g ≡ f) → g.entries ≡ f.entries
taken_entries (Ok t) f g p a b = ap (λ k. k.entries) a ∙ take_entries f p
taken_entries (Err e) f g p a b = ap (λ k. k.entries) b

pub taken_follows : {X E : Type 0} (r : Result X E) (f g : Following) (p : Packet) → OnOk r (g ≡ after_take f p) → OnOk r ((start : List Entry) (packets : List Packet) → IsFollowing start packets f → IsFollowing start (packets ++ p ∷ []) g)
taken_follows (Ok t) f g p e = λ start packets h. subst (λ k. IsFollowing start (packets ++ p ∷ []) k) (sym e) (take_follows f start packets p h)
taken_follows (Err e) f g p t = tt
