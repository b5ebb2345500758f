-- Prefixes of one list.
use Rattle.std.proofs.Common.{◌≡◌, ◌⊎◌, List, [], ◌∷◌, ◌++◌, drop, sym, refl, ap, ◌∙◌, subst, ⊎_elim, inl, inr, append_assoc, append-nil}
use mathlib.Core.Option.{some-injective}
use mathlib.Core.List.{IsPrefix}
use lib.ListN.{get_elem?}

module _ {A : Type 0} where
  -- a list is a prefix of itself
  pub whole : (a : List A) → IsPrefix a a
  whole a = ([], append-nil a)

  -- of two prefixes of one list one is a prefix of the other
  pub one_of_two : (a b l : List A) → IsPrefix a l → IsPrefix b l → IsPrefix a b ⊎ IsPrefix b a
  one_of_two [] b l p q = inl (b, refl)
  one_of_two (x ∷ a) [] l p q = inr (x ∷ a, refl)
  one_of_two (x ∷ a) (y ∷ b) l p q =
      let e : (x ∷ a) ++ p.0 ≡ (y ∷ b) ++ q.0 = p.1 ∙ sym q.1 in
      let h : x ≡ y = some-injective x y (ap (λ m. get_elem? m 0) e) in
      ⊎_elim (λ (t : IsPrefix a b). inl (t.0, λ i. h i ∷ t.1 i)) (λ (t : IsPrefix b a). inr (t.0, λ i. sym h i ∷ t.1 i))
      (one_of_two a b (b ++ q.0) (p.0, ap (λ m. drop 1 m) e) (q.0, refl))

  -- a prefix of a prefix is a prefix
  pub further : (a l m : List A) → IsPrefix a l → IsPrefix l m → IsPrefix a m
  further a l m p q = (p.0 ++ q.0, sym (append_assoc a p.0 q.0) ∙ (ap (λ z. z ++ q.0) p.1 ∙ q.1))

  -- a prefix of a list is one of an equal list
  pub same_list : (a b l : List A) → a ≡ l → IsPrefix b l → IsPrefix b a
  same_list a b l e p = subst (IsPrefix b) (sym e) p
