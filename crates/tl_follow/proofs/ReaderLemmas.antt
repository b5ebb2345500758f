-- What a reader of an input keeps of the bytes that it was given.
use Rattle.std.proofs.Common.{◌≡◌, ℕ, ◌+◌, ◌-◌, ◌<◌, ◌≤◌, Bool, true, false, nat_lt, List, [], ◌∷◌, ◌++◌, length, drop, Some, Result, Ok, Err, IfOk, IfErr, refl, sym, ap, ◌∙◌, subst, arith, append_assoc, length-append, length-drop}
use Rattle.std.specs.List.{AllByRecursion}
use Rattle.std.proofs.lemmas.Grind.{flat_map-append}
use Rattle.std.proofs.lemmas.Bool.Decides.{nat_tests}
use Rattle.tl_types.specs.declared.commits.Commit.{Commit}
use Rattle.tl_types.specs.declared.commits.Entry.{Entry}
use Rattle.tl_types.specs.declared.limits.Limits.{Limits}
use Rattle.tl_follow.specs.declared.packets.Packet.{Packet}
use Rattle.tl_follow.specs.declared.places.InputFollower.{InputFollower}
use Rattle.tl_follow.specs.declared.inputs.PacketReader.{PacketReader}
use Rattle.tl_follow.specs.declared.in_place.Followed.{Followed}
use Rattle.tl_follow.specs.declared.faults.PacketFault.{PacketFault}
use Rattle.tl_follow.specs.declared.faults.PacketFault.TheVariants as fault
use Rattle.tl_follow.specs.Packets.{packet_spelling, IsPacket, IsNoPacket, BeginsWithPacket}
use Rattle.tl_follow.specs.Inputs.{input_of, IsInput, IsInputFault, FollowsInput, input_limit}
use Rattle.tl_follow.specs.Calls.{FollowsAll}
use Rattle.tl_follow.specs.Places.{HasTaken, IsStuckAt, TakesAt}
use Rattle.tl_follow.specs.Readers.{IsReadTo, TakesFront, IsRest, KeepsRest, IsRead, ReadsOn}
use Rattle.tl_follow.proofs.FrontLemmas.{begins_none}
use Rattle.tl_follow.proofs.InputLemmas.{read_on, not_long, whole_fault, follows_input}

-- LENGTHS

input_both : (ps qs : List Packet) → input_of (ps ++ qs) ≡ input_of ps ++ input_of qs
input_both ps qs = flat_map-append packet_spelling ps qs

all_both : (ps qs : List Packet) → AllByRecursion IsPacket ps → AllByRecursion IsPacket qs → AllByRecursion IsPacket (ps ++ qs)
all_both [] qs a b = b
all_both (p ∷ ps) qs a b = (a.0, all_both ps qs a.1 b)

read_length : (bytes : List ℕ) (packets : List Packet) (at : ℕ) → IsReadTo bytes packets at → length (input_of packets) ≡ at
read_length bytes packets at r =
    let all = ap length r.front ∙ length-append (input_of packets) (drop at bytes) in
    let behind = length-drop at bytes in
    let within = r.within in
    omega (arith, all, behind, within)

-- packets that were taken before, and those that the bytes are up to an offset
both_length : (from at : ℕ) (bytes : List ℕ) (ps qs : List Packet) → from ≡ length (input_of ps) → IsReadTo bytes qs at → from + at ≡ length (input_of (ps ++ qs))
both_length from at bytes ps qs e r =
    let n = read_length bytes qs at r in
    let both = ap length (input_both ps qs) ∙ length-append (input_of ps) (input_of qs) in
    omega (arith, e, n, both)

-- PACKET AFTER PACKET

pub takes_more : (from : ℕ) (bytes : List ℕ) (at end : ℕ) (packet : Packet) (old mid new : InputFollower) → TakesFront from bytes at old mid → (rest : List ℕ) × BeginsWithPacket (drop at bytes) packet rest → end ≡ at + length (packet_spelling packet) → end ≤ length bytes → TakesAt packet (from + at) mid new → TakesFront from bytes end old new
takes_more from bytes at end packet old mid new before begins ends within takes = λ l s ps e h.
    let r = before l s ps e h in
    record {
      more = r.more ++ packet ∷ [];
      to = read_on bytes r.more (r.more ++ packet ∷ []) at end packet r.to refl begins ends within;
      taken = subst (λ qs. HasTaken l s qs new) (append_assoc ps r.more (packet ∷ []))
          (takes l s (ps ++ r.more) (both_length from at bytes ps r.more e r.to) r.taken);
    }

-- PIECE AFTER PIECE

-- what stands behind the packets begins with none
rest_none : (bad : Bool) (bytes : List ℕ) → IsRest bad bytes → IsNoPacket bytes
rest_none true bytes never = begins_none bytes never
rest_none false bytes rest = rest.0

input_is : (l : Limits) (s : List Entry) (bytes : List ℕ) (r : PacketReader) (h : IsRead l s bytes r) → IsInput bytes h.packets h.behind
input_is l s bytes r h = (h.packets_are, h.bytes_are, rest_none r.bad h.behind h.rest)

-- where none begins behind the packets, whatever follows, the piece is counted
pub counts_on : (piece : List ℕ) (old new : PacketReader) → old.bad ≡ true → new.bad ≡ true → new.follower ≡ old.follower → new.end ≡ old.end → new.rest.items ≡ old.rest.items → new.count ≡ old.count + length piece → ReadsOn piece old new
counts_on piece old new bad still same ends rest count = λ l s bytes h.
    let never = subst (λ b. IsRest b h.behind) bad h.rest in
    record {
      packets = h.packets;
      behind = h.behind ++ piece;
      packets_are = h.packets_are;
      bytes_are = ap (λ b. b ++ piece) h.bytes_are ∙ append_assoc (input_of h.packets) h.behind piece;
      taken = subst (λ f. HasTaken l s h.packets f) (sym same) h.taken;
      end_is = ends ∙ h.end_is;
      count_is = let c = h.count_is in let n = length-append bytes piece in omega (arith, count, c, n);
      rest = subst (λ b. IsRest b (h.behind ++ piece)) (sym still) (λ more. subst (λ b. IsNoPacket b) (sym (append_assoc h.behind piece more)) (never (piece ++ more)));
      keeps = subst (λ b. KeepsRest b (h.behind ++ piece) new.rest.items) (sym still) (rest ∙ subst (λ b. KeepsRest b h.behind old.rest.items) bad h.keeps);
    }

-- what is kept behind the packets that were read
pub keeps_rest : (bad : Bool) (bytes kept : List ℕ) → (bad ≡ false → kept ≡ bytes) → (bad ≡ true → kept ≡ []) → KeepsRest bad bytes kept
keeps_rest true bytes kept all none = none refl
keeps_rest false bytes kept all none = all refl

-- else the packets are taken that stand behind those before
pub reads_on : (piece all : List ℕ) (stop : ℕ) (old new : PacketReader) → old.bad ≡ false → all ≡ old.rest.items ++ piece → TakesFront old.end all stop old.follower new.follower → IsRest new.bad (drop stop all) → KeepsRest new.bad (drop stop all) new.rest.items → new.end ≡ old.end + stop → new.count ≡ old.count + length piece → ReadsOn piece old new
reads_on piece all stop old new reads is_all takes rest keeps ends count = λ l s bytes h.
    let t = takes l s h.packets h.end_is h.taken in
    let kept = subst (λ b. KeepsRest b h.behind old.rest.items) reads h.keeps in
    let front : bytes ++ piece ≡ input_of (h.packets ++ t.more) ++ drop stop all =
    ap (λ b. b ++ piece) h.bytes_are ∙ append_assoc (input_of h.packets) h.behind piece
    ∙ ap (λ b. input_of h.packets ++ b) (ap (λ b. b ++ piece) (sym kept) ∙ sym is_all ∙ t.to.front)
    ∙ sym (append_assoc (input_of h.packets) (input_of t.more) (drop stop all))
    ∙ ap (λ b. b ++ drop stop all) (sym (input_both h.packets t.more)) in
    record {
      packets = h.packets ++ t.more;
      behind = drop stop all;
      packets_are = all_both h.packets t.more h.packets_are t.to.packets_are;
      bytes_are = front;
      taken = t.taken;
      end_is = ends ∙ both_length old.end stop all h.packets t.more h.end_is t.to;
      count_is = let c = h.count_is in let n = length-append bytes piece in omega (arith, count, c, n);
      rest = rest;
      keeps = keeps;
    }

-- THE END

-- where the packets end with the bytes, nothing stands behind them
whole_input : (l : Limits) (s : List Entry) (bytes : List ℕ) (r : PacketReader) (h : IsRead l s bytes r) → r.count ≤ r.end → IsInput bytes h.packets []
whole_input l s bytes r h all = by_behind h.behind (input_is l s bytes r h) where
  by_behind : (b : List ℕ) → IsInput bytes h.packets b → IsInput bytes h.packets []
  by_behind [] i = i
  by_behind (x ∷ b) i =
      let total = ap length i.1 ∙ length-append (input_of h.packets) (x ∷ b) in
      let ends = h.end_is in
      let count = h.count_is in
      absurd (omega (arith, total, ends, count, all))

short_bytes : (l : Limits) (s : List Entry) (bytes : List ℕ) (r : PacketReader) → IsRead l s bytes r → r.count ≤ input_limit → length bytes ≤ input_limit
short_bytes l s bytes r h short = subst (λ n. n ≤ input_limit) h.count_is short

-- bytes are left behind the packets
pub cut_input : (limits : Limits) (start : List Commit) (s : List Entry) (bytes : List ℕ) (r : PacketReader) → IsRead limits s bytes r → r.count ≤ input_limit → r.end < r.count → IsInputFault limits start bytes (fault.BadPacket r.end)
cut_input limits start s bytes r h short cut =
    let total = ap length h.bytes_are ∙ length-append (input_of h.packets) h.behind in
    let ends = h.end_is in
    let count = h.count_is in
    let some : nat_lt 0 (length h.behind) ≡ true = (let n : 0 < length h.behind = omega (arith, total, ends, count, cut) in grind (arith, nat_tests)) in
    let place : length bytes - length h.behind ≡ r.end = omega (arith, total, ends) in
    let long = not_long bytes (short_bytes limits s bytes r h short) in
    (h.packets, h.behind, input_is limits s bytes r h, rw (long, some) (ap (λ n. Some n) place))

-- the packets of the whole input were followed
pub follows_whole : (result : Result Followed PacketFault) (limits : Limits) (start : List Commit) (s : List Entry) (bytes : List ℕ) (r : PacketReader) (h : IsRead limits s bytes r) → r.count ≤ input_limit → r.count ≤ r.end → IfOk result (λ f. FollowsAll limits start h.packets f.commits) → IfOk result (λ f. FollowsInput limits start bytes f.commits)
follows_whole (Ok f) limits start s bytes r h short all follows =
    follows_input limits start bytes h.packets f.commits (short_bytes limits s bytes r h short) (whole_input limits s bytes r h all) follows
follows_whole (Err e) limits start s bytes r h short all follows = tt

-- or they are stuck
stuck_by : (e : PacketFault) (limits : Limits) (start : List Commit) (s : List Entry) (bytes : List ℕ) (r : PacketReader) (h : IsRead limits s bytes r) → r.count ≤ input_limit → r.count ≤ r.end → IsStuckAt limits start h.packets e → IsInputFault limits start bytes e
stuck_by (fault.BadPacket at) limits start s bytes r h short all stuck =
    (h.packets, [], whole_input limits s bytes r h all, whole_fault limits start bytes h.packets (short_bytes limits s bytes r h short) ∙ stuck)
stuck_by fault.NoMemory limits start s bytes r h short all stuck = tt

pub stuck_whole : (result : Result Followed PacketFault) (limits : Limits) (start : List Commit) (s : List Entry) (bytes : List ℕ) (r : PacketReader) (h : IsRead limits s bytes r) → r.count ≤ input_limit → r.count ≤ r.end → IfErr result (IsStuckAt limits start h.packets) → IfErr result (IsInputFault limits start bytes)
stuck_whole (Ok f) limits start s bytes r h short all stuck = tt
stuck_whole (Err e) limits start s bytes r h short all stuck = stuck_by e limits start s bytes r h short all stuck
