-- Where the packets of an input begin, and what a follower of them keeps of that.
use Rattle.std.proofs.Common.{◌≡◌, ℕ, ◌+◌, ◌<◌, Bool, true, false, nat_lt, ◌==◌, if◌then◌else◌, List, [], ◌∷◌, ◌++◌, length, Option, Some, None, option_map, IsSome, is_some, refl, sym, ap, ◌∙◌, subst, arith, length-append}
use Rattle.std.proofs.lemmas.Bool.Decides.{nat_tests}
use Rattle.tl_types.specs.declared.commits.Commit.{Commit}
use Rattle.tl_types.specs.declared.commits.Entry.{Entry}
use Rattle.tl_types.specs.declared.limits.Limits.{Limits}
use Rattle.tl_types.specs.Entries.{commits_of}
use Rattle.tl_follow.specs.declared.packets.Packet.{Packet}
use Rattle.tl_follow.specs.declared.packets.Taken.TheVariants.{Held, Known}
use Rattle.tl_follow.specs.declared.places.Place.{Place}
use Rattle.tl_follow.specs.declared.places.InputFollower.{InputFollower}
use Rattle.tl_follow.specs.declared.faults.FollowFault.{FollowFault}
use Rattle.tl_follow.specs.declared.faults.FollowFault.TheVariants as follow_fault
use Rattle.tl_follow.specs.Following.{Following, IsFollowing, commits_in, first_of, followed, held_at}
use Rattle.tl_follow.specs.Calls.{IsEndOfAll, is_new, taken_as}
use Rattle.tl_follow.specs.Packets.{packet_spelling}
use Rattle.tl_follow.specs.Inputs.{input_of, place_of, stuck_at}
use Rattle.tl_follow.specs.Places.{HasPlace, HasTaken, IsStuckAt, TakesAt, fault_at, place_fault, place_in}
use Rattle.tl_follow.proofs.Growing.{grown_prefix, prefix_length}
use Rattle.tl_follow.proofs.Holding.{not_and}
use Rattle.tl_follow.proofs.InputLemmas.{place_some}

-- ONE PACKET MORE

-- the first that there is, or this one where a test is passed
abbrev or_here : Option ℕ → Bool → ℕ → Option ℕ
or_here o t at = if is_some o then o else (if t then Some at else None)

further : (o : Option ℕ) (t : Bool) (at len : ℕ) → option_map (λ n. len + n) (or_here o t at) ≡ or_here (option_map (λ n. len + n) o) t (len + at)
further None true at len = refl
further None false at len = refl
further (Some n) t at len = refl

place_more : (version : ℕ) (packets : List Packet) (p : Packet) → place_of version (packets ++ p ∷ []) ≡ or_here (place_of version packets) (p.version == version) (length (input_of packets))
place_more version [] p = by_test (p.version == version) refl where
  by_test : (t : Bool) → (p.version == version) ≡ t → place_of version (p ∷ []) ≡ or_here None (p.version == version) 0
  by_test true t = rw t refl
  by_test false t = rw t refl
place_more version (q ∷ packets) p = by_test (q.version == version) refl (place_more version packets p) where
  by_test : (t : Bool) → (q.version == version) ≡ t → place_of version (packets ++ p ∷ []) ≡ or_here (place_of version packets) (p.version == version) (length (input_of packets)) → place_of version (q ∷ (packets ++ p ∷ [])) ≡ or_here (place_of version (q ∷ packets)) (p.version == version) (length (input_of (q ∷ packets)))
  by_test true t h = rw t refl
  by_test false t h =
      rw t (ap (option_map (λ n. length (packet_spelling q) + n)) h
      ∙ further (place_of version packets) (p.version == version) (length (input_of packets)) (length (packet_spelling q))
      ∙ ap (or_here (option_map (λ n. length (packet_spelling q) + n) (place_of version packets)) (p.version == version)) (sym (length-append (packet_spelling q) (input_of packets))))

in_more : (version : ℕ) (places : List Place) (p : Place) → place_in version (places ++ p ∷ []) ≡ or_here (place_in version places) (p.version == version) p.at
in_more version [] p = refl
in_more version (q ∷ places) p = by_test (q.version == version) refl (in_more version places p) where
  by_test : (t : Bool) → (q.version == version) ≡ t → place_in version (places ++ p ∷ []) ≡ or_here (place_in version places) (p.version == version) p.at → place_in version (q ∷ (places ++ p ∷ [])) ≡ or_here (place_in version (q ∷ places)) (p.version == version) p.at
  by_test true t h = rw t refl
  by_test false t h = rw t h

-- where there is one, or the test is not passed, it stays
stays : (o : Option ℕ) (t : Bool) (at : ℕ) → (t ≡ true → IsSome o) → o ≡ or_here o t at
stays None true at h = absurd (let s = h refl in cc)
stays None false at h = refl
stays (Some n) t at h = refl

-- of a version that is held a packet is among those that were taken
some_held : (start : List Entry) (packets : List Packet) (f : Following) (version : ℕ) → IsFollowing start packets f → length (commits_in f) < version → is_some (held_at version f) ≡ true → IsSome (place_of version packets)
some_held start packets f version h over held = by_first (first_of version packets) refl where
  by_first : (o : Option Commit) → first_of version packets ≡ o → IsSome (place_of version packets)
  by_first None e = absurd (let s = ap is_some (h.holds version over ∙ e) in let t = sym s ∙ held in cc)
  by_first (Some c) e = place_some version packets c e

known_new : (f : Following) (p : Packet) → taken_as f p ≡ Known → is_new f p ≡ false
known_new f p e = by_test (is_new f p) refl where
  by_test : (t : Bool) → is_new f p ≡ t → is_new f p ≡ false
  by_test true t = absurd (let r : taken_as f p ≡ Held = rw t refl in let s = sym r ∙ e in cc)
  by_test false t = t

-- the packet is known: its version was reached, or one of its version is held
pub takes_known : (packet : Packet) (at : ℕ) (old new : InputFollower) → taken_as old.follower packet ≡ Known → new.places ≡ old.places → new.follower.limits ≡ old.follower.limits → new.follower.entries ≡ old.follower.entries → ((start : List Entry) (packets : List Packet) → IsFollowing start packets old.follower → IsFollowing start (packets ++ packet ∷ []) new.follower) → TakesAt packet at old new
takes_known packet at old new known same limits entries follows = λ l start packets e h. record {
  limits_same = limits ∙ h.limits_same;
  entries_same = entries ∙ h.entries_same;
  follows = follows start packets h.follows;
  places = λ version over.
      let reached : length (commits_in old.follower) < version = subst (λ es. length (commits_of es) < version) (sym h.entries_same) over in
      ap (place_in version) same ∙ h.places version over
      ∙ stays (place_of version packets) (packet.version == version) (length (input_of packets)) (λ t.
      let is : packet.version ≡ version = grind (arith, nat_tests) in
      let past : nat_lt (length (commits_in old.follower)) packet.version ≡ true = grind (arith, nat_tests) in
      some_held start packets old.follower version h.follows reached
      (ap (λ n. is_some (held_at n old.follower)) (sym is) ∙ not_and (nat_lt (length (commits_in old.follower)) packet.version) (is_some (held_at packet.version old.follower)) (known_new old.follower packet known) past))
      ∙ sym (place_more version packets packet);
}

-- the packet is held, and its place stands behind the others
pub takes_held : (packet : Packet) (at version : ℕ) (old new : InputFollower) (place : Place) → version ≡ packet.version → place ≡ record { version = version; at = at } → new.places ≡ old.places ++ place ∷ [] → new.follower.limits ≡ old.follower.limits → new.follower.entries ≡ old.follower.entries → ((start : List Entry) (packets : List Packet) → IsFollowing start packets old.follower → IsFollowing start (packets ++ packet ∷ []) new.follower) → TakesAt packet at old new
takes_held packet at version old new place is made more limits entries follows = λ l start packets e h. record {
  limits_same = limits ∙ h.limits_same;
  entries_same = entries ∙ h.entries_same;
  follows = follows start packets h.follows;
  places = λ v over.
      ap (place_in v) more ∙ in_more v old.places place
      ∙ ap (λ (q : Place). or_here (place_in v old.places) (q.version == v) q.at) made
      ∙ ap (λ n. or_here (place_in v old.places) (n == v) at) is
      ∙ ap (λ o. or_here o (packet.version == v) at) (h.places v over)
      ∙ ap (or_here (place_of v packets) (packet.version == v)) e
      ∙ sym (place_more v packets packet);
}

-- GOING ON

version_past : (limits : Limits) (start : List Commit) (packets : List Packet) → length start < length (followed limits start packets) + 1
version_past limits start packets =
    let l = prefix_length start (followed limits start packets) (grown_prefix limits packets (length packets) start) in
    omega (arith, l)

-- the version at which the packets are stuck has a place
pub has_place : (fault : FollowFault) (limits : Limits) (start : List Entry) (packets : List Packet) (f : InputFollower) → HasTaken limits start packets f → IsEndOfAll f.follower.limits (commits_of start) packets fault → HasPlace f.places fault
has_place (follow_fault.Unfit version) limits start packets f h halted =
    let next : ℕ = length (followed f.follower.limits (commits_of start) packets) + 1 in
    let over : length (commits_of start) < version = subst (λ n. length (commits_of start) < n) (sym halted.0) (version_past f.follower.limits (commits_of start) packets) in
    let some : IsSome (place_of version packets) = subst (λ n. IsSome (place_of n packets)) (sym halted.0) (place_some next packets halted.1.0 halted.1.1) in
    subst (λ o. IsSome o) (sym (h.places version over)) some
has_place follow_fault.NoMemory limits start packets f h halted = tt

-- and that is where the first packet of the version begins
pub stuck_place : (fault : FollowFault) (limits : Limits) (start : List Entry) (packets : List Packet) (f : InputFollower) → HasTaken limits start packets f → IsEndOfAll f.follower.limits (commits_of start) packets fault → IsStuckAt limits (commits_of start) packets (place_fault f.places fault)
stuck_place (follow_fault.Unfit version) limits start packets f h halted = by_place (place_in version f.places) refl where
  over : length (commits_of start) < version
  over = subst (λ n. length (commits_of start) < n) (sym halted.0) (version_past f.follower.limits (commits_of start) packets)

  is : stuck_at limits (commits_of start) packets ≡ place_in version f.places
  is = ap (λ l. stuck_at l (commits_of start) packets) (sym h.limits_same) ∙ ap (λ n. place_of n packets) (sym halted.0) ∙ sym (h.places version over)

  by_place : (o : Option ℕ) → place_in version f.places ≡ o → IsStuckAt limits (commits_of start) packets (fault_at (place_in version f.places))
  by_place (Some at) e = rw e (is ∙ e)
  by_place None e = rw e tt
stuck_place follow_fault.NoMemory limits start packets f h halted = tt
