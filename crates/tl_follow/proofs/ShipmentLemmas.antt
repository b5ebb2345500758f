-- What is shipped of a history, version by version, and where it leads.
use Rattle.std.proofs.Common.{◌≡◌, ℕ, zero, suc, ◌+◌, ◌-◌, ◌<◌, ◌≤◌, Bool, true, false, ◌&&◌, cond, nat_le, nat_lt, ◌==◌, List, [], ◌∷◌, ◌++◌, length, take, drop, Some, None, IsSome, is_some, slice_get, refl, sym, ap, ap₂, ◌∙◌, subst, arith, append_assoc, append-nil, length-append}
use Rattle.std.specs.List.{AllByRecursion, filter}
use Rattle.std.proofs.lemmas.Grind.{flat_map-append}
use Rattle.std.proofs.lemmas.List.Elements.{filter-append}
use Rattle.std.proofs.lemmas.List.{take-append-drop, length-take-le}
use Rattle.std.proofs.lemmas.Bool.Decides.{nat_tests}
use Rattle.tl_types.specs.declared.commits.Commit.{Commit}
use Rattle.tl_types.specs.declared.limits.Limits.{Limits}
use Rattle.tl_types.specs.History.{nothing, after_commit, fits_body}
use Rattle.tl_types.specs.Legality.{FitFrom, FitInTurn}
use Rattle.tl_types.specs.Limits.{standard_limits}
use Rattle.tl_types.specs.Plain as plain
use Rattle.tl_types.proofs.Lists.{and_left}
use Rattle.tl_record.specs.Spelling.{IsCommit}
use Rattle.tl_follow.specs.declared.packets.Packet.{Packet}
use Rattle.tl_follow.specs.Packets.{packet_spelling, IsPacket}
use Rattle.tl_follow.specs.Following.{IsPrefixOf, first_of, followed}
use Rattle.tl_follow.specs.Leading.{IsOf, AreFrom}
use Rattle.tl_follow.specs.declared.faults.PacketFault.{PacketFault}
use Rattle.tl_follow.specs.declared.faults.PacketFault.TheVariants as fault
use Rattle.tl_follow.specs.Inputs.{input_of, IsInput, input_fault, FollowsInput, IsInputFault, input_limit}
use Rattle.tl_follow.specs.Shipping.{packet_of, packets_from, packets_between, shipment}
use Rattle.tl_follow.proofs.Growing.{prefix_length, grown_prefix}
use Rattle.tl_follow.proofs.Led.{is_led, get_past}
use Rattle.tl_follow.proofs.InputLemmas.{no_packet_in_none, one_input, place_none, whole_fault}

abbrev is_between : ℕ → ℕ → Packet → Bool
is_between from to p = nat_le from p.version && nat_le p.version to

-- WHAT THE FILTER KEEPS

none_over : (from to k : ℕ) (cs : List Commit) → to < k → filter (is_between from to) (packets_from k cs) ≡ []
none_over from to k [] h = refl
none_over from to k (c ∷ cs) h =
    let t : (nat_le from k && nat_le k to) ≡ false = grind (arith, nat_tests) in
    let over : to < k + 1 = omega (arith, h) in
    rw t (none_over from to (k + 1) cs over)

none_for : (from to k : ℕ) (cs : List Commit) → to < from → filter (is_between from to) (packets_from k cs) ≡ []
none_for from to k [] h = refl
none_for from to k (c ∷ cs) h =
    let t : (nat_le from k && nat_le k to) ≡ false = grind (arith, nat_tests) in
    rw t (none_for from to (k + 1) cs h)

kept_more : (b : Bool) (p q : Packet) (xs ys : List Packet) → xs ≡ ys ++ q ∷ [] → cond b (p ∷ xs) xs ≡ cond b (p ∷ ys) ys ++ q ∷ []
kept_more true p q xs ys e = ap (λ l. p ∷ l) e
kept_more false p q xs ys e = e

more_at : (from to k i : ℕ) (cs : List Commit) (c : Commit) → k + i ≡ to + 1 → from ≤ to + 1 → slice_get cs i ≡ Some c → filter (is_between from (to + 1)) (packets_from k cs) ≡ filter (is_between from to) (packets_from k cs) ++ packet_of (to + 1) c ∷ []
more_at from to k i [] c e f g = absurd (cc)
more_at from to k zero (d ∷ cs) c e f g =
    let here : k ≡ to + 1 = omega (arith, e) in
    let t : (nat_le from k && nat_le k (to + 1)) ≡ true = grind (arith, nat_tests) in
    let u : (nat_le from k && nat_le k to) ≡ false = grind (arith, nat_tests) in
    let over : to + 1 < k + 1 = omega (arith, here) in
    let over' : to < k + 1 = omega (arith, here) in
    let d_is : d ≡ c = cc in
    let none = none_over from (to + 1) (k + 1) cs over in
    let none' = none_over from to (k + 1) cs over' in
    let same : packet_of k d ≡ packet_of (to + 1) c = ap (λ v. packet_of v d) here ∙ ap (packet_of (to + 1)) d_is in
    rw (t, u, none, none') (ap (λ p. p ∷ []) same)
more_at from to k (suc i) (d ∷ cs) c e f g =
    let t : (nat_le from k && nat_le k (to + 1)) ≡ nat_le from k = grind (arith, nat_tests) in
    let u : (nat_le from k && nat_le k to) ≡ nat_le from k = grind (arith, nat_tests) in
    let e' : k + 1 + i ≡ to + 1 = omega (arith, e) in
    rw (t, u) (kept_more (nat_le from k) (packet_of k d) (packet_of (to + 1) c)
    (filter (is_between from (to + 1)) (packets_from (k + 1) cs)) (filter (is_between from to) (packets_from (k + 1) cs))
    (more_at from to (k + 1) i cs c e' f g))

none_past : (from to last k : ℕ) (cs : List Commit) → k + length cs ≤ last + 1 → last ≤ to → filter (is_between from to) (packets_from k cs) ≡ filter (is_between from last) (packets_from k cs)
none_past from to last k [] h l = refl
none_past from to last k (c ∷ cs) h l =
    let t : (nat_le from k && nat_le k to) ≡ (nat_le from k && nat_le k last) = grind (arith, nat_tests) in
    let h' : k + 1 + length cs ≤ last + 1 = omega (arith, h) in
    rw t (ap (λ xs. cond (nat_le from k && nat_le k last) (packet_of k c ∷ xs) xs) (none_past from to last (k + 1) cs h' l))

-- SHIPMENTS

pub shipment_none : (commits : List Commit) (from to : ℕ) → to < from → shipment from to commits ≡ []
shipment_none commits from to h = ap input_of (none_for from to 1 commits h)

pub shipment_more : (commits : List Commit) (c : Commit) (from to : ℕ) → from ≤ to + 1 → slice_get commits to ≡ Some c → shipment from (to + 1) commits ≡ shipment from to commits ++ packet_spelling (packet_of (to + 1) c)
shipment_more commits c from to f g =
    let e : 1 + to ≡ to + 1 = omega arith in
    ap input_of (more_at from to 1 to commits c e f g)
    ∙ flat_map-append packet_spelling (packets_between from to commits) (packet_of (to + 1) c ∷ [])
    ∙ ap (λ l. shipment from to commits ++ l) (append-nil (packet_spelling (packet_of (to + 1) c)))

pub shipment_end : (commits : List Commit) (from to : ℕ) → length commits ≤ to → shipment from to commits ≡ shipment from (length commits) commits
shipment_end commits from to h =
    let e : 1 + length commits ≤ length commits + 1 = omega arith in
    ap input_of (none_past from to (length commits) 1 commits e h)

-- one commit more: its packet, where its version is one of those
packets_next : (k n : ℕ) (cs : List Commit) (c : Commit) → n ≡ k + length cs → packets_from k (cs ++ c ∷ []) ≡ packets_from k cs ++ packet_of n c ∷ []
packets_next k n [] c e =
    let same : k ≡ n = omega (arith, e) in
    ap (λ v. packet_of v c ∷ []) same
packets_next k n (d ∷ cs) c e =
    let on : n ≡ k + 1 + length cs = omega (arith, e) in
    ap (λ ps. packet_of k d ∷ ps) (packets_next (k + 1) n cs c on)

spelled_where : (b : Bool) (p : Packet) → input_of (cond b (p ∷ []) []) ≡ cond b (packet_spelling p) []
spelled_where true p = append-nil (packet_spelling p)
spelled_where false p = refl

pub shipment_next : (commits : List Commit) (c : Commit) (from to n : ℕ) → n ≡ length commits + 1 → shipment from to (commits ++ c ∷ []) ≡ shipment from to commits ++ cond (nat_le from n && nat_le n to) (packet_spelling (packet_of n c)) []
shipment_next commits c from to n e =
    let on : n ≡ 1 + length commits = omega (arith, e) in
    ap (λ ps. input_of (filter (is_between from to) ps)) (packets_next 1 n commits c on)
    ∙ ap input_of (filter-append (is_between from to) (packets_from 1 commits) (packet_of n c ∷ []))
    ∙ flat_map-append packet_spelling (packets_between from to commits) (cond (nat_le from n && nat_le n to) (packet_of n c ∷ []) [])
    ∙ ap (λ l. shipment from to commits ++ l) (spelled_where (nat_le from n && nat_le n to) (packet_of n c))

-- WHERE THEY LEAD

all_filtered : (P : Packet → Type 0) (test : Packet → Bool) (ps : List Packet) → AllByRecursion P ps → AllByRecursion P (filter test ps)
all_filtered P test [] all = tt
all_filtered P test (p ∷ ps) all = by_test (test p) refl (all_filtered P test ps all.1) where
  by_test : (t : Bool) → test p ≡ t → AllByRecursion P (filter test ps) → AllByRecursion P (filter test (p ∷ ps))
  by_test true t h = rw t (all.0, h)
  by_test false t h = rw t h

all_of : (leader front cs : List Commit) (k : ℕ) → leader ≡ front ++ cs → k ≡ length front + 1 → AllByRecursion (IsOf leader) (packets_from k cs)
all_of leader front [] k e n = tt
all_of leader front (c ∷ cs) k e n =
    let one : 1 ≤ k = omega (arith, n) in
    let back : k - 1 ≡ length front = omega (arith, n) in
    let whole : leader ≡ (front ++ c ∷ []) ++ cs = e ∙ sym (append_assoc front (c ∷ []) cs) in
    let n' : k + 1 ≡ length (front ++ c ∷ []) + 1 = let l = length-append front (c ∷ []) in omega (arith, l, n) in (
      (one, ap (slice_get leader) back ∙ ap (λ l. slice_get l (length front)) e ∙ get_past front (c ∷ cs)),
      all_of leader (front ++ c ∷ []) cs (k + 1) whole n',
    )

first_there : (from to v k i : ℕ) (cs : List Commit) → k + i ≡ v → i < length cs → from ≤ v → v ≤ to → IsSome (first_of v (filter (is_between from to) (packets_from k cs)))
first_there from to v k i [] e l f t = absurd (omega (arith, l))
first_there from to v k zero (c ∷ cs) e l f t =
    let is : (nat_le from k && nat_le k to) ≡ true = grind (arith, nat_tests) in
    let same : (k == v) ≡ true = grind (arith, nat_tests) in
    rw (is, same) refl
first_there from to v k (suc i) (c ∷ cs) e l f t =
    let e' : k + 1 + i ≡ v = omega (arith, e) in
    let l' : i < length cs = omega (arith, l) in
    let apart : (k == v) ≡ false = grind (arith, nat_tests) in
    by_test (nat_le from k && nat_le k to) refl apart (first_there from to v (k + 1) i cs e' l' f t) where
      by_test : (b : Bool) → (nat_le from k && nat_le k to) ≡ b → (k == v) ≡ false → IsSome (first_of v (filter (is_between from to) (packets_from (k + 1) cs))) → IsSome (first_of v (filter (is_between from to) (packets_from k (c ∷ cs))))
      by_test true b apart h = rw (b, apart) h
      by_test false b apart h = rw b h

pub shipment_is_input : (commits : List Commit) (from to : ℕ) → AllByRecursion IsPacket (packets_between from to commits) → IsInput (shipment from to commits) (packets_between from to commits) []
shipment_is_input commits from to all = (all, sym (append-nil (shipment from to commits)), no_packet_in_none)

whole_front : (leader front : List Commit) → IsPrefixOf front leader → length leader ≤ length front → front ≡ leader
whole_front leader front ([], e) l = sym (e ∙ append-nil front)
whole_front leader front (c ∷ more, e) l = absurd (let k = ap length e in let m = length-append front (c ∷ more) in omega (arith, k, m, l))

pub shipment_from : (limits : Limits) (leader start : List Commit) (from to : ℕ) → FitInTurn limits leader → IsPrefixOf start leader → AreFrom limits leader start (packets_between from to leader)
shipment_from limits leader start from to fit begins = record {
  fit = fit;
  begins = begins;
  each = all_filtered (IsOf leader) (is_between from to) (packets_from 1 leader) (all_of leader [] leader 1 refl refl);
}

pub shipment_leads : (limits : Limits) (leader start : List Commit) (from to : ℕ) → FitInTurn limits leader → IsPrefixOf start leader → from ≤ length start + 1 → length leader ≤ to → followed limits start (packets_between from to leader) ≡ leader
shipment_leads limits leader start from to fit begins f t =
    let packets = packets_between from to leader in
    let come_from = shipment_from limits leader start from to fit begins in
    let led = is_led limits leader start packets come_from in
    let end = followed limits start packets in
    let s = prefix_length start end (grown_prefix limits packets (length packets) start) in
    by_reach (nat_le (length leader) (length end)) refl led.along led.next s where
      by_reach : (b : Bool) → nat_le (length leader) (length (followed limits start (packets_between from to leader))) ≡ b → IsPrefixOf (followed limits start (packets_between from to leader)) leader
          → first_of (length (followed limits start (packets_between from to leader)) + 1) (packets_between from to leader) ≡ None → length start ≤ length (followed limits start (packets_between from to leader)) → followed limits start (packets_between from to leader) ≡ leader
      by_reach true b along next s =
          let l : length leader ≤ length (followed limits start (packets_between from to leader)) = grind (arith, nat_tests) in
          whole_front leader (followed limits start (packets_between from to leader)) along l
      by_reach false b along next s =
          let n : ℕ = length (followed limits start (packets_between from to leader)) in
          let less : length (followed limits start (packets_between from to leader)) < length leader = grind (arith, nat_tests) in
          let e : 1 + n ≡ n + 1 = omega arith in
          let there = first_there from to (n + 1) 1 n leader e less (omega (arith, f, s)) (omega (arith, less, t)) in
          absurd (let o : is_some (first_of (n + 1) (packets_between from to leader)) ≡ false = ap is_some next in let q = sym o ∙ there in cc)

-- WHAT A LEADER SHIPS CAN BE SPELLED, AND HAS NO FAULT

packets_all : (k : ℕ) (db : plain.Database) (cs : List Commit) → k ≡ db.version + 1 → FitFrom standard_limits db cs → AllByRecursion IsCommit cs → AllByRecursion IsPacket (packets_from k cs)
packets_all k db [] e fit all = tt
packets_all k db (c ∷ cs) e fit all =
    let room : nat_lt db.version 16777215 ≡ true = and_left (nat_lt db.version 16777215) (fits_body standard_limits db c.body) fit.0 in
    let one : 1 ≤ k = omega (arith, e) in
    let few : k ≤ 16777215 = grind (arith, nat_tests) in
    let on : k + 1 ≡ (after_commit db c).version + 1 = ap (λ n. n + 1) e in
    (((one, few), all.0), packets_all (k + 1) (after_commit db c) cs on fit.1 all.1)

pub shipment_packets : (commits : List Commit) (from to : ℕ) → FitInTurn standard_limits commits → AllByRecursion IsCommit commits → AllByRecursion IsPacket (packets_between from to commits)
shipment_packets commits from to fit all = all_filtered IsPacket (is_between from to) (packets_from 1 commits) (packets_all 1 nothing commits refl fit all)

pub shipment_no_fault : (limits : Limits) (leader start : List Commit) (from to : ℕ) → FitInTurn limits leader → IsPrefixOf start leader → length (shipment from to leader) ≤ input_limit → input_fault limits start (shipment from to leader) (packets_between from to leader) [] ≡ None
shipment_no_fault limits leader start from to fit begins short =
    let packets = packets_between from to leader in
    let led = is_led limits leader start packets (shipment_from limits leader start from to fit begins) in
    whole_fault limits start (shipment from to leader) packets short ∙ place_none (length (followed limits start packets) + 1) packets led.next

-- WHO FOLLOWS WHAT A LEADER SHIPS

pub shipment_copies : (limits : Limits) (leader start commits : List Commit) (from to : ℕ) → AllByRecursion IsPacket (packets_between from to leader) → FitInTurn limits leader → IsPrefixOf start leader → from ≤ length start + 1 → length leader ≤ to → FollowsInput limits start (shipment from to leader) commits → start ++ commits ≡ leader
shipment_copies limits leader start commits from to all fit begins f t (packets, i, none, h) =
    let one = one_input (shipment from to leader) packets (packets_between from to leader) [] [] i (shipment_is_input leader from to all) in
    h.history ∙ ap (followed limits start) one.0 ∙ shipment_leads limits leader start from to fit begins f t

pub shipment_no_bad : (limits : Limits) (leader start : List Commit) (from to : ℕ) (e : PacketFault) → AllByRecursion IsPacket (packets_between from to leader) → FitInTurn limits leader → IsPrefixOf start leader → length (shipment from to leader) ≤ input_limit → IsInputFault limits start (shipment from to leader) e → e ≡ fault.NoMemory
shipment_no_bad limits leader start from to (fault.BadPacket at) all fit begins short (packets, rest, i, bad) =
    let bytes = shipment from to leader in
    let one = one_input bytes packets (packets_between from to leader) rest [] i (shipment_is_input leader from to all) in
    let none = shipment_no_fault limits leader start from to fit begins short in
    let same = ap₂ (λ (ps : List Packet) (r : List ℕ). input_fault limits start bytes ps r) one.0 one.1 in
    absurd (let q = sym bad ∙ same ∙ none in cc)
shipment_no_bad limits leader start from to fault.NoMemory all fit begins short bad = refl

-- A SHIPMENT UP TO A VERSION

all_joined : (leader : List Commit) (ps qs : List Packet) → AllByRecursion (IsOf leader) ps → AllByRecursion (IsOf leader) qs → AllByRecursion (IsOf leader) (ps ++ qs)
all_joined leader [] qs f g = g
all_joined leader (p ∷ ps) qs f g = (f.0, all_joined leader ps qs f.1 g)

pub several_from : (limits : Limits) (leader start : List Commit) (packets more : List Packet) → AreFrom limits leader start packets → AreFrom limits leader start more → AreFrom limits leader start (packets ++ more)
several_from limits leader start packets more f g = record { fit = f.fit; begins = f.begins; each = all_joined leader packets more f.each g.each }

fit_front : (limits : Limits) (db : plain.Database) (front more : List Commit) → FitFrom limits db (front ++ more) → FitFrom limits db front
fit_front limits db [] more fit = tt
fit_front limits db (c ∷ front) more fit = (fit.0, fit_front limits (after_commit db c) front more fit.1)

packets_on : (k n : ℕ) (front more : List Commit) → n ≡ k + length front → packets_from k (front ++ more) ≡ packets_from k front ++ packets_from n more
packets_on k n [] more e =
    let same : k ≡ n = omega (arith, e) in
    ap (λ v. packets_from v more) same
packets_on k n (c ∷ front) more e =
    let on : n ≡ k + 1 + length front = omega (arith, e) in
    ap (λ ps. packet_of k c ∷ ps) (packets_on (k + 1) n front more on)

between_front : (leader front more : List Commit) (from to : ℕ) → leader ≡ front ++ more → length front ≡ to → packets_between from to leader ≡ packets_between from to front
between_front leader front more from to e n =
    let on : to + 1 ≡ 1 + length front = omega (arith, n) in
    let over : to < to + 1 = omega arith in
    ap (λ cs. filter (is_between from to) (packets_from 1 cs)) e
    ∙ ap (filter (is_between from to)) (packets_on 1 (to + 1) front more on)
    ∙ filter-append (is_between from to) (packets_from 1 front) (packets_from (to + 1) more)
    ∙ ap (λ ps. filter (is_between from to) (packets_from 1 front) ++ ps) (none_over from to (to + 1) more over)
    ∙ append-nil (packets_between from to front)

prefix_within : (start front rest : List Commit) → IsPrefixOf start (front ++ rest) → length start ≤ length front → IsPrefixOf start front
prefix_within [] front rest a l = (front, refl)
prefix_within (c ∷ start) [] rest a l = absurd (omega (arith, l))
prefix_within (c ∷ start) (d ∷ front) rest (more, e) l =
    let less : length start ≤ length front = omega (arith, l) in
    let head : d ≡ c = cc in
    let tail : front ++ rest ≡ start ++ more = cc in
    let inner = prefix_within start front rest (more, tail) less in
    (inner.0, ap₂ (λ (x : Commit) (xs : List Commit). x ∷ xs) head inner.1)

-- the leader's commits up to a version
module _ (limits : Limits) (leader start : List Commit) (from to : ℕ) (fit : FitInTurn limits leader) (begins : IsPrefixOf start leader) (f : from ≤ length start + 1) (s : length start ≤ to) (t : to ≤ length leader) where
  parts : leader ≡ take to leader ++ drop to leader
  parts = sym (take-append-drop to leader)

  front_length : length (take to leader) ≡ to
  front_length = length-take-le to leader t

  front_fits : FitInTurn limits (take to leader)
  front_fits = fit_front limits nothing (take to leader) (drop to leader) (subst (FitInTurn limits) parts fit)

  front_begins : IsPrefixOf start (take to leader)
  front_begins =
      let l : length start ≤ length (take to leader) = omega (arith, s, front_length) in
      prefix_within start (take to leader) (drop to leader) (subst (IsPrefixOf start) parts begins) l

  front_packets : packets_between from to leader ≡ packets_between from to (take to leader)
  front_packets = between_front leader (take to leader) (drop to leader) from to parts front_length

  front_end : length (take to leader) ≤ to
  front_end = omega (arith, front_length)

  pub shipment_leads_to : followed limits start (packets_between from to leader) ≡ take to leader
  shipment_leads_to = ap (followed limits start) front_packets ∙ shipment_leads limits (take to leader) start from to front_fits front_begins f front_end

pub shipment_copies_to : (limits : Limits) (leader start commits : List Commit) (from to : ℕ) → AllByRecursion IsPacket (packets_between from to leader) → FitInTurn limits leader → IsPrefixOf start leader → from ≤ length start + 1 → length start ≤ to → to ≤ length leader → FollowsInput limits start (shipment from to leader) commits → start ++ commits ≡ take to leader
shipment_copies_to limits leader start commits from to all fit begins f s t (packets, i, none, h) =
    let one = one_input (shipment from to leader) packets (packets_between from to leader) [] [] i (shipment_is_input leader from to all) in
    h.history ∙ ap (followed limits start) one.0 ∙ shipment_leads_to limits leader start from to fit begins f s t

pub shipment_copies_first : (limits : Limits) (leader start commits : List Commit) (from to : ℕ) → AllByRecursion IsPacket (packets_between from to leader) → FitInTurn limits leader → IsPrefixOf start leader → FollowsInput limits start (shipment from to leader) commits → IsPrefixOf (start ++ commits) leader
shipment_copies_first limits leader start commits from to all fit begins (packets, i, none, h) =
    let one = one_input (shipment from to leader) packets (packets_between from to leader) [] [] i (shipment_is_input leader from to all) in
    let end : start ++ commits ≡ followed limits start (packets_between from to leader) = h.history ∙ ap (followed limits start) one.0 in
    let led = is_led limits leader start (packets_between from to leader) (shipment_from limits leader start from to fit begins) in
    subst (λ cs. IsPrefixOf cs leader) (sym end) led.along
