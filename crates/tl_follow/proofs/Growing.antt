-- The history that packets make, turn by turn.
use Rattle.std.proofs.Common.{◌≡◌, ℕ, zero, suc, ◌+◌, ◌≤◌, Bool, true, false, nat_lt, ◌==◌, if◌then◌else◌, List, [], ◌∷◌, ◌++◌, length, Option, Some, None, is_some, ◌⊎◌, inl, inr, refl, sym, ap, ◌∙◌, subst, arith, length-append, append_assoc, append-nil}
use Rattle.std.proofs.lemmas.List.{append_cancel_left}
use Rattle.std.proofs.lemmas.Bool.Decides.{nat_tests}
use Rattle.tl_types.specs.declared.commits.Commit.{Commit}
use Rattle.tl_types.specs.declared.limits.Limits.{Limits}
use Rattle.tl_types.specs.History.{database_of, fits}
use Rattle.tl_follow.specs.declared.packets.Packet.{Packet}
use Rattle.tl_follow.specs.Following.{IsPrefixOf, first_of, where_fits, next_of, with_next, commits_after, followed, IsStuck}

-- PREFIXES

pub prefix_refl : (cs : List Commit) → IsPrefixOf cs cs
prefix_refl cs = ([], sym (append-nil cs))

pub prefix_trans : (xs ys zs : List Commit) → IsPrefixOf xs ys → IsPrefixOf ys zs → IsPrefixOf xs zs
prefix_trans xs ys zs a b = (a.0 ++ b.0, b.1 ∙ ap (λ l. l ++ b.0) a.1 ∙ append_assoc xs a.0 b.0)

pub prefix_longer : (cs : List Commit) (o : Option Commit) → IsPrefixOf cs (with_next cs o)
prefix_longer cs None = prefix_refl cs
prefix_longer cs (Some c) = (c ∷ [], refl)

pub prefix_length : (xs ys : List Commit) → IsPrefixOf xs ys → length xs ≤ length ys
prefix_length xs ys a = omega (arith, ap length a.1, length-append xs a.0)

-- FIRST PACKETS

-- one packet more changes the first of a version only where there was none
pub first_more : (version : ℕ) (packets : List Packet) (p : Packet) (o : Option Commit) → first_of version packets ≡ o
    → first_of version (packets ++ p ∷ []) ≡ (if is_some o then o else (if p.version == version then Some p.commit else None))
first_more version [] p o e = rw (sym e) refl
first_more version (q ∷ packets) p o e = by_test (q.version == version) refl (first_more version packets p o) where
  by_test : (t : Bool) → (q.version == version) ≡ t → (first_of version packets ≡ o → first_of version (packets ++ p ∷ []) ≡ (if is_some o then o else (if p.version == version then Some p.commit else None))) → first_of version ((q ∷ packets) ++ p ∷ []) ≡ (if is_some o then o else (if p.version == version then Some p.commit else None))
  by_test true t h = let s : Some q.commit ≡ o = (let r : first_of version (q ∷ packets) ≡ Some q.commit = rw t refl in sym r ∙ e) in rw (t, sym s) refl
  by_test false t h = let s : first_of version packets ≡ o = (let r : first_of version (q ∷ packets) ≡ first_of version packets = rw t refl in sym r ∙ e) in rw t (h s)

-- PACKETS ABOVE A VERSION

abbrev one_if : Bool → ℕ
one_if true = 1
one_if false = 0

abbrev above : ℕ → List Packet → ℕ
above version [] = 0
above version (p ∷ packets) = one_if (nat_lt version p.version) + above version packets

one_if_le : (b : Bool) → one_if b ≤ 1
one_if_le true = omega arith
one_if_le false = omega arith

above_le : (version : ℕ) (packets : List Packet) → above version packets ≤ length packets
above_le version [] = omega arith
above_le version (p ∷ packets) = omega (arith, above_le version packets, one_if_le (nat_lt version p.version))

one_less : (a b : Bool) → (a ≡ true → b ≡ true) → one_if a ≤ one_if b
one_less true b h = rw (h refl) (omega arith)
one_less false true h = omega arith
one_less false false h = omega arith

above_fewer : (version : ℕ) (packets : List Packet) → above (version + 1) packets ≤ above version packets
above_fewer version [] = omega arith
above_fewer version (p ∷ packets) =
    let one = one_less (nat_lt (version + 1) p.version) (nat_lt version p.version) (λ h. grind (arith, nat_tests)) in
    omega (arith, above_fewer version packets, one)

-- where there is a packet of the next version, fewer are above it
above_less : (version : ℕ) (packets : List Packet) (c : Commit) → first_of (version + 1) packets ≡ Some c → above (version + 1) packets + 1 ≤ above version packets
above_less version [] c e = absurd (cc)
above_less version (p ∷ packets) c e = by_test (p.version == version + 1) refl (above_less version packets c) where
  by_test : (t : Bool) → (p.version == version + 1) ≡ t → (first_of (version + 1) packets ≡ Some c → above (version + 1) packets + 1 ≤ above version packets) → above (version + 1) (p ∷ packets) + 1 ≤ above version (p ∷ packets)
  by_test true t h =
      let over : nat_lt version p.version ≡ true = grind (arith, nat_tests) in
      let not_over : nat_lt (version + 1) p.version ≡ false = grind (arith, nat_tests) in
      let fewer = above_fewer version packets in
      rw (over, not_over) (omega (arith, fewer))
  by_test false t h =
      let one = one_less (nat_lt (version + 1) p.version) (nat_lt version p.version) (λ h. grind (arith, nat_tests)) in
      let s : first_of (version + 1) packets ≡ Some c = (let r : first_of (version + 1) (p ∷ packets) ≡ first_of (version + 1) packets = rw t refl in sym r ∙ e) in
      omega (arith, one, h s)

-- GROWING

module _ (limits : Limits) (packets : List Packet) where
  -- what comes next comes from a packet of the next version, and fits
  pub next_from : (cs : List Commit) (c : Commit) → next_of limits packets cs ≡ Some c → (first_of (length cs + 1) packets ≡ Some c) × (fits limits (database_of cs) c ≡ true)
  next_from cs c e = by_first (first_of (length cs + 1) packets) refl where
    by_fits : (d : Commit) (t : Bool) → fits limits (database_of cs) d ≡ t → where_fits limits cs (Some d) ≡ Some c → (Some d ≡ Some c) × (fits limits (database_of cs) c ≡ true)
    by_fits d true t h =
        let s : Some d ≡ Some c = (let r : where_fits limits cs (Some d) ≡ Some d = rw t refl in sym r ∙ h) in
        (s, grind arith)
    by_fits d false t h = absurd (let r : where_fits limits cs (Some d) ≡ None = rw t refl in let s = sym r ∙ h in cc)

    by_first : (o : Option Commit) → first_of (length cs + 1) packets ≡ o → (first_of (length cs + 1) packets ≡ Some c) × (fits limits (database_of cs) c ≡ true)
    by_first None f = absurd (let s : where_fits limits cs None ≡ Some c = ap (λ o. where_fits limits cs o) (sym f) ∙ e in cc)
    by_first (Some d) f =
        let s : where_fits limits cs (Some d) ≡ Some c = ap (λ o. where_fits limits cs o) (sym f) ∙ e in
        let b = by_fits d (fits limits (database_of cs) d) refl s in
        (f ∙ b.0, b.1)

  -- and the other way round
  pub next_is : (cs : List Commit) (c : Commit) → first_of (length cs + 1) packets ≡ Some c → fits limits (database_of cs) c ≡ true → next_of limits packets cs ≡ Some c
  next_is cs c f t = ap (λ o. where_fits limits cs o) f ∙ (let r : where_fits limits cs (Some c) ≡ Some c = rw t refl in r)

  pub next_none : (cs : List Commit) → first_of (length cs + 1) packets ≡ None → next_of limits packets cs ≡ None
  next_none cs f = ap (λ o. where_fits limits cs o) f

  pub next_stuck : (cs : List Commit) → IsStuck limits packets cs → next_of limits packets cs ≡ None
  next_stuck cs s = ap (λ o. where_fits limits cs o) s.1 ∙ (let r : where_fits limits cs (Some s.0) ≡ None = rw s.2 refl in r)

  -- where nothing comes next, nothing comes
  pub still : (n : ℕ) (cs : List Commit) → next_of limits packets cs ≡ None → commits_after limits packets n cs ≡ cs
  still zero cs e = refl
  still (suc n) cs e = ap (λ o. commits_after limits packets n (with_next cs o)) e ∙ still n cs e

  pub later : (n m : ℕ) (cs : List Commit) → commits_after limits packets (n + m) cs ≡ commits_after limits packets m (commits_after limits packets n cs)
  later zero m cs = let e : 0 + m ≡ m = omega arith in ap (λ k. commits_after limits packets k cs) e
  later (suc n) m cs =
      let e : suc n + m ≡ suc (n + m) = omega arith in
      ap (λ k. commits_after limits packets k cs) e ∙ later n m (with_next cs (next_of limits packets cs))

  pub grown_prefix : (n : ℕ) (cs : List Commit) → IsPrefixOf cs (commits_after limits packets n cs)
  grown_prefix zero cs = prefix_refl cs
  grown_prefix (suc n) cs =
      let cs' = with_next cs (next_of limits packets cs) in
      prefix_trans cs cs' (commits_after limits packets n cs') (prefix_longer cs (next_of limits packets cs)) (grown_prefix n cs')

  -- as many times as there are packets above are enough
  enough : (n : ℕ) (cs : List Commit) → above (length cs) packets ≤ n → next_of limits packets (commits_after limits packets n cs) ≡ None
  enough zero cs few = by_next (next_of limits packets cs) refl where
    by_next : (o : Option Commit) → next_of limits packets cs ≡ o → next_of limits packets cs ≡ None
    by_next None e = e
    by_next (Some c) e = absurd (let l = above_less (length cs) packets c (next_from cs c e).0 in omega (arith, l, few))
  enough (suc n) cs few = by_next (next_of limits packets cs) refl (λ c l. enough n (cs ++ c ∷ []) l) where
    by_next : (o : Option Commit) → next_of limits packets cs ≡ o → ((c : Commit) → above (length (cs ++ c ∷ [])) packets ≤ n → next_of limits packets (commits_after limits packets n (cs ++ c ∷ [])) ≡ None) → next_of limits packets (commits_after limits packets (suc n) cs) ≡ None
    by_next None e h = ap (next_of limits packets) (still (suc n) cs e) ∙ e
    by_next (Some c) e h =
        let l = above_less (length cs) packets c (next_from cs c e).0 in
        let k : length (cs ++ c ∷ []) ≡ length cs + 1 = length-append cs (c ∷ []) in
        let few' : above (length cs + 1) packets ≤ n = omega (arith, l, few) in
        ap (λ o. next_of limits packets (commits_after limits packets n (with_next cs o))) e
        ∙ h c (subst (λ v. above v packets ≤ n) (sym k) few')

  pub ends : (start : List Commit) → next_of limits packets (followed limits start packets) ≡ None
  ends start = enough (length packets) start (above_le (length start) packets)

  -- what was commits_after from commits on leads to the same end
  pub grown_end : (n : ℕ) (start : List Commit) → followed limits start packets ≡ commits_after limits packets (length packets) (commits_after limits packets n start)
  grown_end n start =
      let e : length packets + n ≡ n + length packets = omega arith in
      sym (still n (followed limits start packets) (ends start)) ∙ sym (later (length packets) n start)
      ∙ ap (λ k. commits_after limits packets k start) e ∙ later n (length packets) start

  pub grown_leads : (n : ℕ) (start : List Commit) → IsPrefixOf (commits_after limits packets n start) (followed limits start packets)
  grown_leads n start =
      let cs = commits_after limits packets n start in
      subst (λ l. IsPrefixOf cs l) (sym (grown_end n start)) (grown_prefix (length packets) cs)

  pub grown_last : (n : ℕ) (start : List Commit) → next_of limits packets (commits_after limits packets n start) ≡ None → commits_after limits packets n start ≡ followed limits start packets
  grown_last n start e = sym (still (length packets) (commits_after limits packets n start) e) ∙ sym (grown_end n start)

  -- commits between the first ones and what is commits_after are commits_after
  abbrev pub Reaches : List Commit → List Commit → Type 0
  Reaches start cs = (k : ℕ) × (cs ≡ commits_after limits packets k start)

  split : (start cs : List Commit) (c : Commit) (n : ℕ) → IsPrefixOf start cs → IsPrefixOf cs (commits_after limits packets n (start ++ c ∷ [])) → (cs ≡ start) ⊎ IsPrefixOf (start ++ c ∷ []) cs
  split start cs c n ([], e) b = inl (e ∙ append-nil start)
  split start cs c n (d ∷ more, e) b =
      let g = grown_prefix n (start ++ c ∷ []) in
      let whole : start ++ (d ∷ more ++ b.0) ≡ start ++ (c ∷ g.0) =
      sym (append_assoc start (d ∷ more) b.0) ∙ ap (λ l. l ++ b.0) (sym e) ∙ sym b.1 ∙ g.1 ∙ append_assoc start (c ∷ []) g.0 in
      let tails = append_cancel_left start (d ∷ more ++ b.0) (c ∷ g.0) whole in
      let same : d ≡ c = cc in
      inr (more, e ∙ ap (λ x. start ++ x ∷ more) same ∙ sym (append_assoc start (c ∷ []) more))

  pub reaches : (n : ℕ) (start cs : List Commit) → IsPrefixOf start cs → IsPrefixOf cs (commits_after limits packets n start) → Reaches start cs
  reaches zero start cs a b = (0, both a b) where
    both : IsPrefixOf start cs → IsPrefixOf cs start → cs ≡ start
    both ([], e) b = e ∙ append-nil start
    both (d ∷ more, e) b = absurd (omega (arith, ap length e, length-append start (d ∷ more), prefix_length cs start b))
  reaches (suc n) start cs a b = by_next (next_of limits packets start) refl (λ c. reaches n (start ++ c ∷ []) cs) where
    by_next : (o : Option Commit) → next_of limits packets start ≡ o → ((c : Commit) → IsPrefixOf (start ++ c ∷ []) cs → IsPrefixOf cs (commits_after limits packets n (start ++ c ∷ [])) → Reaches (start ++ c ∷ []) cs) → Reaches start cs
    by_next None e h =
        let b' : IsPrefixOf cs start = subst (λ l. IsPrefixOf cs l) (still (suc n) start e) b in
        let m = prefix_length cs start b' in
        (0, both a m) where
          both : IsPrefixOf start cs → length cs ≤ length start → cs ≡ start
          both ([], q) l = q ∙ append-nil start
          both (d ∷ more, q) l = absurd (omega (arith, ap length q, length-append start (d ∷ more), l))
    by_next (Some c) e h =
        let g : commits_after limits packets (suc n) start ≡ commits_after limits packets n (start ++ c ∷ []) = ap (λ o. commits_after limits packets n (with_next start o)) e in
        let b' : IsPrefixOf cs (commits_after limits packets n (start ++ c ∷ [])) = subst (λ l. IsPrefixOf cs l) g b in
        by_split (split start cs c n a b') b' where
          by_split : (cs ≡ start) ⊎ IsPrefixOf (start ++ c ∷ []) cs → IsPrefixOf cs (commits_after limits packets n (start ++ c ∷ [])) → Reaches start cs
          by_split (inl same) b' = (0, same)
          by_split (inr front) b' =
              let r = h c front b' in
              (suc r.0, r.1 ∙ sym (ap (λ o. commits_after limits packets r.0 (with_next start o)) e))

-- MORE PACKETS

pub next_more : (limits : Limits) (packets : List Packet) (p : Packet) (cs : List Commit) (c : Commit) → next_of limits packets cs ≡ Some c → next_of limits (packets ++ p ∷ []) cs ≡ Some c
next_more limits packets p cs c e =
    let n = next_from limits packets cs c e in
    next_is limits (packets ++ p ∷ []) cs c (first_more (length cs + 1) packets p (Some c) n.0) n.1

-- what is commits_after by packets is commits_after by more packets
pub reaches_more : (limits : Limits) (packets : List Packet) (p : Packet) (k : ℕ) (start : List Commit) → Reaches limits (packets ++ p ∷ []) start (commits_after limits packets k start)
reaches_more limits packets p zero start = (0, refl)
reaches_more limits packets p (suc k) start = by_next (next_of limits packets start) refl (λ c. reaches_more limits packets p k (start ++ c ∷ [])) where
  by_next : (o : Option Commit) → next_of limits packets start ≡ o → ((c : Commit) → Reaches limits (packets ++ p ∷ []) (start ++ c ∷ []) (commits_after limits packets k (start ++ c ∷ []))) → Reaches limits (packets ++ p ∷ []) start (commits_after limits packets (suc k) start)
  by_next None e h = (0, still limits packets (suc k) start e)
  by_next (Some c) e h =
      let r = h c in
      let n = next_more limits packets p start c e in
      (suc r.0, ap (λ o. commits_after limits packets k (with_next start o)) e ∙ r.1 ∙ sym (ap (λ o. commits_after limits (packets ++ p ∷ []) r.0 (with_next start o)) n))
