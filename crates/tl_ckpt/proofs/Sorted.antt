-- What a sort and a `dedup` leave of events.
use Rattle.std.proofs.Common.{◌≡◌, Bool, true, false, ◌||◌, cond, List, [], ◌∷◌, refl, sym, ap, ◌∙◌, subst}
use Rattle.std.specs.List.{dedup, dedup_from, AllByRecursion}
use Rattle.std.specs.List.Sorted.{IsSorted, IsStrictlySortedBy, IsPermutation}
use Rattle.std.specs.declared.cmp.Ordering.TheVariants.{Less}
use Rattle.std.specs.Ordering.{is_lt}
use Rattle.std.proofs.lemmas.List.Sorted.{list_any-IsPermutation}
use Rattle.std.proofs.lemmas.List.Kept.{IsStrictlySortedBy-dedup}
use Rattle.tl_types.specs.declared.events.ValidEvent.{ValidEvent}
use Rattle.tl_types.specs.contracts.events.ValidEventOrd.TheImpl as order
use Rattle.tl_types.specs.contracts.events.ValidEventPartialEq.TheImpl as same
use Rattle.tl_types.specs.Checkpoints.{comes_before}
use Rattle.tl_ckpt.specs.Valid.{Rises}
use Rattle.tl_types.proofs.ValidEventOrder.{same_event, equal, total, less_is, tie_is}
use Rattle.tl_ckpt.proofs.Members.{has}

above_from : (x : ValidEvent) (ys : List ValidEvent) → AllByRecursion (λ y. order.cmp-value.it x y ≡ Less) ys → AllByRecursion (λ y. comes_before x y ≡ true) ys
above_from x [] all = tt
above_from x (y ∷ ys) all = (sym (less_is x y) ∙ ap is_lt all.0, above_from x ys all.1)

rises_from : (xs : List ValidEvent) → IsStrictlySortedBy order.cmp-value.it xs → Rises xs
unfolding IsStrictlySortedBy
rises_from [] up = tt
rises_from (x ∷ xs) up = (above_from x xs up.0, rises_from xs up.1)

has_from : (z x : ValidEvent) (xs : List ValidEvent) → has (dedup_from same.eq-value.it x xs) z ≡ (same_event x z || has xs z)
has_from z x [] = refl
has_from z x (y ∷ ys) = by_test (same_event y x) refl (has_from z x ys) (has_from z y ys) where
  by_test : (b : Bool) → same_event y x ≡ b → has (dedup_from same.eq-value.it x ys) z ≡ (same_event x z || has ys z) → has (dedup_from same.eq-value.it y ys) z ≡ (same_event y z || has ys z) → has (cond b (dedup_from same.eq-value.it x ys) (x ∷ dedup_from same.eq-value.it y ys)) z ≡ (same_event x z || (same_event y z || has ys z))
  by_test true e here later =
      let alike = equal y x e in
      here ∙ twice (same_event x z) (has ys z) ∙ ap (λ c. same_event x z || (same_event c z || has ys z)) (sym alike) where
        twice : (a b : Bool) → (a || b) ≡ (a || (a || b))
        twice true b = refl
        twice false b = refl
  by_test false e here later = ap (λ b. same_event x z || b) later

has_dedup : (z : ValidEvent) (xs : List ValidEvent) → has (dedup same.eq-value.it xs) z ≡ has xs z
has_dedup z [] = refl
has_dedup z (x ∷ xs) = has_from z x xs

pub rises_left : (sorted left : List ValidEvent) → IsSorted order.cmp-value.it sorted → left ≡ dedup same.eq-value.it sorted → Rises left
rises_left sorted left up is = subst Rises (sym is) (rises_from (dedup same.eq-value.it sorted) (IsStrictlySortedBy-dedup total {E = same.eq-value.it} tie_is sorted up))

pub has_left : (given sorted left : List ValidEvent) → IsPermutation given sorted → left ≡ dedup same.eq-value.it sorted → (z : ValidEvent) → has left z ≡ has given z
has_left given sorted left moved is z = ap (λ xs. has xs z) is ∙ has_dedup z sorted ∙ sym (list_any-IsPermutation (λ x. same_event x z) given sorted moved)
