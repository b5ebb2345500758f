-- An input is read in one way, packet by packet.
use Rattle.std.proofs.Common.{◌≡◌, ℕ, ◌+◌, ◌≤◌, Bool, true, false, nat_lt, ◌==◌, List, [], ◌∷◌, ◌++◌, length, drop, Option, Some, None, option_map, IsSome, refl, sym, ap, ap₂, ◌∙◌, subst, arith, append_assoc, append-nil, length-append, drop-drop}
use Rattle.std.specs.List.{AllByRecursion}
use Rattle.std.proofs.lemmas.Grind.{flat_map-append}
use Rattle.std.proofs.lemmas.Bool.Decides.{nat_tests}
use Rattle.tl_types.specs.declared.commits.Commit.{Commit}
use Rattle.tl_types.specs.declared.limits.Limits.{Limits}
use Rattle.tl_record.specs.Spelling.{number, spelling}
use Rattle.tl_record.proofs.RecordsRead.{no_prefix}
use Rattle.tl_follow.specs.declared.packets.Packet.{Packet}
use Rattle.tl_follow.specs.Packets.{packet_spelling, IsPacket, IsNoPacket, BeginsWithPacket}
use Rattle.tl_follow.specs.Following.{first_of, followed}
use Rattle.tl_follow.specs.Calls.{FollowsAll}
use Rattle.tl_follow.specs.Inputs.{input_of, IsInput, place_of, stuck_at, input_fault, FollowsInput, input_limit}
use Rattle.tl_follow.specs.Readers.{IsReadTo}
use Rattle.tl_follow.proofs.Numbers.{one_number}
use Rattle.tl_follow.proofs.PacketsRead.{version_small}

-- ONE WAY

pub one_packet : (p q : Packet) (r s : List ℕ) → IsPacket p → IsPacket q → packet_spelling p ++ r ≡ packet_spelling q ++ s → (p ≡ q) × (r ≡ s)
one_packet p q r s f g e =
    let h = sym (append_assoc (number p.version) (spelling p.commit) r) ∙ e ∙ append_assoc (number q.version) (spelling q.commit) s in
    let n = one_number p.version q.version (spelling p.commit ++ r) (spelling q.commit ++ s) (version_small p.version f.0) (version_small q.version g.0) h in
    let c = no_prefix p.commit q.commit r s f.1 g.1 n.1 in
    (ap₂ (λ (v : ℕ) (d : Commit). record { version = v; commit = d }) n.0 c.0, c.1)

same_rest : (ps qs : List Packet) (r s : List ℕ) → AllByRecursion IsPacket ps → AllByRecursion IsPacket qs → IsNoPacket r → IsNoPacket s → input_of ps ++ r ≡ input_of qs ++ s → (ps ≡ qs) × (r ≡ s)
same_rest [] [] r s f g m n e = (refl, e)
same_rest [] (q ∷ qs) r s f g m n e = absurd (m q (input_of qs ++ s) (g.0, e ∙ append_assoc (packet_spelling q) (input_of qs) s))
same_rest (p ∷ ps) [] r s f g m n e = absurd (n p (input_of ps ++ r) (f.0, sym e ∙ append_assoc (packet_spelling p) (input_of ps) r))
same_rest (p ∷ ps) (q ∷ qs) r s f g m n e =
    let h = sym (append_assoc (packet_spelling p) (input_of ps) r) ∙ e ∙ append_assoc (packet_spelling q) (input_of qs) s in
    let o = one_packet p q (input_of ps ++ r) (input_of qs ++ s) f.0 g.0 h in
    let t = same_rest ps qs r s f.1 g.1 m n o.1 in
    (ap₂ (λ (x : Packet) (xs : List Packet). x ∷ xs) o.0 t.0, t.1)

pub one_input : (bytes : List ℕ) (ps qs : List Packet) (r s : List ℕ) → IsInput bytes ps r → IsInput bytes qs s → (ps ≡ qs) × (r ≡ s)
one_input bytes ps qs r s a b = same_rest ps qs r s a.0 b.0 a.2 b.2 (sym a.1 ∙ b.1)

-- ONE PACKET MORE

drop_front : (xs ys : List ℕ) → drop (length xs) (xs ++ ys) ≡ ys
drop_front [] ys = refl
drop_front (x ∷ xs) ys = drop_front xs ys

pub some_bytes : (p : Packet) → 4 ≤ length (packet_spelling p)
some_bytes p = let k = length-append (number p.version) (spelling p.commit) in omega (arith, k)

pub no_packet_in_none : IsNoPacket []
no_packet_in_none p rest b =
    let k = length-append (packet_spelling p) rest in
    let s = some_bytes p in
    let l = ap length b.1 in
    absurd (omega (arith, k, s, l))

-- behind a packet stand the bytes that follow it
pub behind_packet : (bytes : List ℕ) (at end : ℕ) (p : Packet) (rest : List ℕ) → drop at bytes ≡ packet_spelling p ++ rest → end ≡ at + length (packet_spelling p) → drop end bytes ≡ rest
behind_packet bytes at end p rest e n =
    ap (λ k. drop k bytes) n ∙ sym (drop-drop (length (packet_spelling p)) at bytes) ∙ ap (drop (length (packet_spelling p))) e ∙ drop_front (packet_spelling p) rest

input_more : (packets : List Packet) (p : Packet) → input_of (packets ++ p ∷ []) ≡ input_of packets ++ packet_spelling p
input_more packets p = flat_map-append packet_spelling packets (p ∷ []) ∙ ap (λ l. input_of packets ++ l) (append-nil (packet_spelling p))

all_more : (packets : List Packet) (p : Packet) → AllByRecursion IsPacket packets → IsPacket p → AllByRecursion IsPacket (packets ++ p ∷ [])
all_more [] p all one = (one, tt)
all_more (q ∷ packets) p all one = (all.0, all_more packets p all.1 one)

pub read_on : (bytes : List ℕ) (packets new : List Packet) (at end : ℕ) (p : Packet) → IsReadTo bytes packets at → new ≡ packets ++ p ∷ [] → (rest : List ℕ) × BeginsWithPacket (drop at bytes) p rest → end ≡ at + length (packet_spelling p) → end ≤ length bytes → IsReadTo bytes new end
read_on bytes packets new at end p r n b e w =
    let behind = behind_packet bytes at end p b.0 b.1.1 e in
    let front : bytes ≡ input_of (packets ++ p ∷ []) ++ drop end bytes =
    r.front ∙ ap (λ l. input_of packets ++ l) (b.1.1 ∙ ap (λ l. packet_spelling p ++ l) (sym behind))
    ∙ sym (append_assoc (input_of packets) (packet_spelling p) (drop end bytes))
    ∙ ap (λ l. l ++ drop end bytes) (sym (input_more packets p)) in
    subst (λ ps. IsReadTo bytes ps end) (sym n)
    (record { within = w; packets_are = all_more packets p r.packets_are b.1.0; front = front })

-- FAULTS

pub place_none : (version : ℕ) (packets : List Packet) → first_of version packets ≡ None → place_of version packets ≡ None
place_none version [] e = refl
place_none version (p ∷ packets) e = by_test (p.version == version) refl (place_none version packets) where
  by_test : (t : Bool) → (p.version == version) ≡ t → (first_of version packets ≡ None → place_of version packets ≡ None) → place_of version (p ∷ packets) ≡ None
  by_test true t h = absurd (let r : first_of version (p ∷ packets) ≡ Some p.commit = rw t refl in let s = sym r ∙ e in cc)
  by_test false t h =
      let r : first_of version (p ∷ packets) ≡ first_of version packets = rw t refl in
      let n = h (sym r ∙ e) in
      rw (t, n) refl

pub place_some : (version : ℕ) (packets : List Packet) (c : Commit) → first_of version packets ≡ Some c → IsSome (place_of version packets)
place_some version [] c e = absurd (cc)
place_some version (p ∷ packets) c e = by_test (p.version == version) refl (place_some version packets c) where
  mapped : (o : Option ℕ) → IsSome o → IsSome (option_map (λ n. length (packet_spelling p) + n) o)
  mapped None h = absurd (cc)
  mapped (Some n) h = refl

  by_test : (t : Bool) → (p.version == version) ≡ t → (first_of version packets ≡ Some c → IsSome (place_of version packets)) → IsSome (place_of version (p ∷ packets))
  by_test true t h = rw t refl
  by_test false t h =
      let r : first_of version (p ∷ packets) ≡ first_of version packets = rw t refl in
      rw t (mapped (place_of version packets) (h (sym r ∙ e)))

pub not_long : (bytes : List ℕ) → length bytes ≤ input_limit → nat_lt input_limit (length bytes) ≡ false
not_long bytes h = grind (arith, nat_tests)

pub whole_fault : (limits : Limits) (start : List Commit) (bytes : List ℕ) (packets : List Packet) → length bytes ≤ input_limit → input_fault limits start bytes packets [] ≡ stuck_at limits start packets
whole_fault limits start bytes packets short = let long = not_long bytes short in rw long refl

pub follows_input : (limits : Limits) (start : List Commit) (bytes : List ℕ) (packets : List Packet) (commits : List Commit) → length bytes ≤ input_limit → IsInput bytes packets [] → FollowsAll limits start packets commits → FollowsInput limits start bytes commits
follows_input limits start bytes packets commits short i h =
    let version : length (start ++ commits) ≡ length (followed limits start packets) = ap length h.history in
    let none : first_of (length (followed limits start packets) + 1) packets ≡ None = ap (λ n. first_of (n + 1) packets) (sym version) ∙ h.last in
    (packets, i, whole_fault limits start bytes packets short ∙ place_none (length (followed limits start packets) + 1) packets none, h)
