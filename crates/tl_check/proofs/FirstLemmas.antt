-- The first of several faults, part by part.
use Rattle.std.proofs.Common.{◌≡◌, ℕ, ◌+◌, ◌<◌, Bool, true, false, ◌&&◌, ◌||◌, cond, List, [], ◌∷◌, ◌++◌, Option, Some, None, refl, ap, arith, sym, ◌∙◌, eqb, ltb, length, take, get_or, append-nil, ◌⊎◌, inl, inr, subst}
use Rattle.std.proofs.lemmas.Bool.Decides.{nat_tests}
use Rattle.std.proofs.lemmas.List.Sums.{fold-append}
use Rattle.std.proofs.lemmas.Grind.{flat_map-append}
use Rattle.std.proofs.lemmas.List.{take_more}
use Rattle.std.proofs.lemmas.List.Elements.{Contains-append_right}
use Rattle.std.specs.List.{AllByRecursion, Contains, flat_map, fold}
use Rattle.tl_query.specs.declared.check_faults.CheckFault.{CheckFault}
use Rattle.tl_query.specs.Checking.{comes_before, earlier, fault_if, first_of, place_of, rank_of}
use Rattle.tl_query.specs.CheckingQueries.{IsFaultless, IsFirst, IsNotBefore}

-- a place and a number come before a place and a number
abbrev comes : ℕ → ℕ → ℕ → ℕ → Bool
comes p r q s = ltb p q || eqb p q && ltb r s

-- before one that comes before a third is before the third
comes_on : (p r q s u v : ℕ) → comes p r q s ≡ true → comes q s u v ≡ true → comes p r u v ≡ true
comes_on p r q s u v h k = grind (arith, nat_tests)

-- not before one that is not before a third is not before the third
comes_back : (p r q s u v : ℕ) → comes p r q s ≡ false → comes q s u v ≡ false → comes p r u v ≡ false
comes_back p r q s u v h k = grind (arith, nat_tests)

itself : (p r : ℕ) → comes p r p r ≡ false
itself p r = grind (arith, nat_tests)

-- no fault comes before itself
before_itself : (e : CheckFault) → IsNotBefore e (Some e)
before_itself e = itself (place_of e) (rank_of e)

earlier_or_none : (a : Option CheckFault) → earlier a None ≡ a
earlier_or_none None = refl
earlier_or_none (Some e) = refl

three : (e f g : CheckFault) → earlier (earlier (Some e) (Some f)) (Some g) ≡ earlier (Some e) (earlier (Some f) (Some g))
three e f g = by_tests (comes_before f e) refl (comes_before g f) refl where
  by_tests : (x : Bool) → comes_before f e ≡ x → (y : Bool) → comes_before g f ≡ y → earlier (earlier (Some e) (Some f)) (Some g) ≡ earlier (Some e) (earlier (Some f) (Some g))
  by_tests true p true q =
      let r : comes_before g e ≡ true = comes_on (place_of g) (rank_of g) (place_of f) (rank_of f) (place_of e) (rank_of e) q p in
      rw (p, q, r) refl
  by_tests true p false q = rw (p, q, p) refl
  by_tests false p true q = rw (p, q) refl
  by_tests false p false q =
      let r : comes_before g e ≡ false = comes_back (place_of g) (rank_of g) (place_of f) (rank_of f) (place_of e) (rank_of e) q p in
      rw (p, q, r, p) refl

-- the first of three faults is the same whichever two are compared first
pub earlier_assoc : (a b c : Option CheckFault) → earlier (earlier a b) c ≡ earlier a (earlier b c)
earlier_assoc None b c = refl
earlier_assoc (Some e) None c = refl
earlier_assoc (Some e) (Some f) None = earlier_or_none (earlier (Some e) (Some f))
earlier_assoc (Some e) (Some f) (Some g) = three e f g

fold_from : (a : Option CheckFault) (ys : List (Option CheckFault)) → fold earlier a ys ≡ earlier a (first_of ys)
fold_from a [] = sym (earlier_or_none a)
fold_from a (y ∷ ys) = fold_from (earlier a y) ys ∙ (earlier_assoc a y (first_of ys) ∙ ap (earlier a) (sym (fold_from y ys)))

-- the first fault of two parts is the earlier of the first faults of both
pub first_of_append : (xs ys : List (Option CheckFault)) → first_of (xs ++ ys) ≡ earlier (first_of xs) (first_of ys)
first_of_append xs ys = fold-append earlier None xs ys ∙ fold_from (first_of xs) ys

-- each of them is none
abbrev pub AllNone : List (Option CheckFault) → Type 0
AllNone [] = Unit {0}
AllNone (o ∷ os) = (o ≡ None) × AllNone os

chosen_some : (b : Bool) (e f : CheckFault) → cond b (Some f) (Some e) ≡ None → ⊥
chosen_some true e f h = cc
chosen_some false e f h = cc

-- the earlier of two is none only where both are
pub earlier_none : (a b : Option CheckFault) → earlier a b ≡ None → (a ≡ None) × (b ≡ None)
earlier_none None None h = (refl, refl)
earlier_none None (Some f) h = absurd (cc)
earlier_none (Some e) None h = absurd (cc)
earlier_none (Some e) (Some f) h = absurd (chosen_some (comes_before f e) e f h)

fold_none : (a : Option CheckFault) (os : List (Option CheckFault)) → fold earlier a os ≡ None → (a ≡ None) × AllNone os
fold_none a [] h = (h, tt)
fold_none a (o ∷ os) h =
    let rest = fold_none (earlier a o) os h in
    let both = earlier_none a o rest.0 in
    (both.0, (both.1, rest.1))

-- the first is none only where all are
pub all_none : (os : List (Option CheckFault)) → first_of os ≡ None → AllNone os
all_none os h = (fold_none None os h).1

-- all of two parts are none only where all of each are
pub none_of_parts : (xs ys : List (Option CheckFault)) → AllNone (xs ++ ys) → AllNone xs × AllNone ys
none_of_parts [] ys h = (tt, h)
none_of_parts (x ∷ xs) ys h = let rest = none_of_parts xs ys h.1 in ((h.0, rest.0), rest.1)

-- a test that says a fault says it only where it is true
pub fault_if_none : (b : Bool) (f : CheckFault) → fault_if b f ≡ None → b ≡ false
fault_if_none true f h = cc
fault_if_none false f h = refl

-- the first fault of one more item's places
pub first_more : {X : Type 0} (f : X → List (Option CheckFault)) (xs : List X) (i : ℕ) (x : X) → i < length xs → x ≡ get_or xs i x → first_of (flat_map f (take (i + 1) xs)) ≡ earlier (first_of (flat_map f (take i xs))) (first_of (f x))
first_more f xs i x h e =
    let more : take (i + 1) xs ≡ take i xs ++ x ∷ [] = take_more xs i x h ∙ ap (λ v. take i xs ++ v ∷ []) (sym e) in
    ap (λ ys. first_of (flat_map f ys)) more
    ∙ (ap first_of (flat_map-append f (take i xs) (x ∷ []))
    ∙ (first_of_append (flat_map f (take i xs)) (f x ++ [])
    ∙ ap (λ ys. earlier (first_of (flat_map f (take i xs))) (first_of ys)) (append-nil (f x))))

-- THE FIRST FAULT, IN WORDS

not_on : (x y : Bool) (z : Bool) → x ≡ true → y ≡ false → (z ≡ true → y ≡ true) → z ≡ false
not_on x y true p q h = absurd (let e = h refl in cc)
not_on x y false p q h = refl

-- what does not come before the earlier of two comes before neither
not_before_both : (e : CheckFault) (a f : Option CheckFault) → IsNotBefore e (earlier a f) → IsNotBefore e a × IsNotBefore e f
not_before_both e None f h = (tt, h)
not_before_both e (Some x) None h = (h, tt)
not_before_both e (Some x) (Some y) h = by_test (comes_before y x) refl where
  by_test : (b : Bool) → comes_before y x ≡ b → (comes_before x e ≡ false) × (comes_before y e ≡ false)
  by_test true t =
      let chosen : comes_before y e ≡ false = rw t at h in
      (not_on _ (comes_before y e) (comes_before x e) t chosen (λ k. comes_on (place_of y) (rank_of y) (place_of x) (rank_of x) (place_of e) (rank_of e) t k), chosen)
  by_test false t =
      let chosen : comes_before x e ≡ false = rw t at h in
      (chosen, comes_back (place_of y) (rank_of y) (place_of x) (rank_of x) (place_of e) (rank_of e) t chosen)

chosen_of : (b : Bool) (x y e : CheckFault) → cond b (Some y) (Some x) ≡ Some e → (Some x ≡ Some e) ⊎ (Some y ≡ Some e)
chosen_of true x y e h = inr h
chosen_of false x y e h = inl h

-- the earlier of two is one of them
one_of_both : (e : CheckFault) (a f : Option CheckFault) → earlier a f ≡ Some e → (a ≡ Some e) ⊎ (f ≡ Some e)
one_of_both e None f h = inr h
one_of_both e (Some x) None h = inl h
one_of_both e (Some x) (Some y) h = chosen_of (comes_before y x) x y e h

here : (f : Option CheckFault) (fs : List (Option CheckFault)) (e : CheckFault) → f ≡ Some e → Contains (f ∷ fs) (Some e)
here f fs e h = (0, omega arith, h)

fold_first : (a : Option CheckFault) (fs : List (Option CheckFault)) (e : CheckFault) → fold earlier a fs ≡ Some e → ((a ≡ Some e) ⊎ Contains fs (Some e)) × (IsNotBefore e a × AllByRecursion (IsNotBefore e) fs)
fold_first a [] e h = (inl h, (subst (IsNotBefore e) (sym h) (before_itself e), tt))
fold_first a (f ∷ fs) e h =
    let rest = fold_first (earlier a f) fs e h in
    let both = not_before_both e a f rest.1.0 in (
      elim rest.0 [ inl here_is ↦ elim (one_of_both e a f here_is) [ inl is ↦ inl is | inr is ↦ inr (here f fs e is) ] | inr later ↦ inr (Contains-append_right (f ∷ []) fs (Some e) later) ],
      (both.0, (both.1, rest.1.1)),
    )

among_none : (fs : List (Option CheckFault)) (e : CheckFault) → (None ≡ Some e) ⊎ Contains fs (Some e) → Contains fs (Some e)
among_none fs e (inl h) = absurd (cc)
among_none fs e (inr h) = h

-- the first of several faults is one of them, and no other comes before it
pub first_is : (fs : List (Option CheckFault)) (e : CheckFault) → first_of fs ≡ Some e → IsFirst e fs
first_is fs e h = let all = fold_first None fs e h in record { among = among_none fs e all.0; first = all.1.1 }

-- where there is no first fault there is none at all
pub none_is : (fs : List (Option CheckFault)) → first_of fs ≡ None → IsFaultless fs
none_is fs h = every fs (all_none fs h) where
  every : (fs : List (Option CheckFault)) → AllNone fs → IsFaultless fs
  every [] h = tt
  every (f ∷ fs) h = (h.0, every fs h.1)

-- THE PARTS OF A QUERY

-- the first fault of six parts of which the second is one place and the last are three
pub parts_of_select : (items : List (Option CheckFault)) (name : Option CheckFault) (pred : List (Option CheckFault)) (point version forgotten : Option CheckFault) → first_of (items ++ (name ∷ []) ++ pred ++ (point ∷ version ∷ forgotten ∷ [])) ≡ first_of (first_of items ∷ name ∷ first_of pred ∷ point ∷ version ∷ forgotten ∷ [])
parts_of_select items name pred point version forgotten =
    let front = earlier (earlier (first_of items) name) (first_of pred) in
    first_of_append (items ++ (name ∷ []) ++ pred) (point ∷ version ∷ forgotten ∷ [])
    ∙ (ap (λ x. earlier x (earlier (earlier point version) forgotten)) (first_of_append (items ++ (name ∷ [])) pred ∙ ap (λ x. earlier x (first_of pred)) (first_of_append items (name ∷ [])))
    ∙ sym (ap (λ x. earlier x forgotten) (earlier_assoc front point version) ∙ earlier_assoc front (earlier point version) forgotten))

-- the first fault of five parts of which the second is one place
pub parts_of_agg : (measure : List (Option CheckFault)) (name : Option CheckFault) (pred by over : List (Option CheckFault)) → first_of (measure ++ (name ∷ []) ++ pred ++ by ++ over) ≡ first_of (first_of measure ∷ name ∷ first_of pred ∷ first_of by ∷ first_of over ∷ [])
parts_of_agg measure name pred by over =
    first_of_append (measure ++ (name ∷ []) ++ pred ++ by) over
    ∙ ap (λ x. earlier x (first_of over)) (first_of_append (measure ++ (name ∷ []) ++ pred) by
    ∙ ap (λ x. earlier x (first_of by)) (first_of_append (measure ++ (name ∷ [])) pred
    ∙ ap (λ x. earlier x (first_of pred)) (first_of_append measure (name ∷ []))))

-- the first fault of six parts of which the first and the third are one place
pub parts_of_join : (left : Option CheckFault) (left_pred : List (Option CheckFault)) (right : Option CheckFault) (right_pred on over : List (Option CheckFault)) → first_of ((left ∷ []) ++ left_pred ++ (right ∷ []) ++ right_pred ++ on ++ over) ≡ first_of (left ∷ first_of left_pred ∷ right ∷ first_of right_pred ∷ first_of on ∷ first_of over ∷ [])
parts_of_join left left_pred right right_pred on over =
    first_of_append ((left ∷ []) ++ left_pred ++ (right ∷ []) ++ right_pred ++ on) over
    ∙ ap (λ x. earlier x (first_of over)) (first_of_append ((left ∷ []) ++ left_pred ++ (right ∷ []) ++ right_pred) on
    ∙ ap (λ x. earlier x (first_of on)) (first_of_append ((left ∷ []) ++ left_pred ++ (right ∷ [])) right_pred
    ∙ ap (λ x. earlier x (first_of right_pred)) (first_of_append ((left ∷ []) ++ left_pred) (right ∷ [])
    ∙ ap (λ x. earlier x right) (first_of_append (left ∷ []) left_pred))))

-- where there is no fault there is none in the last part
pub last_none : (xs ys : List (Option CheckFault)) → first_of (xs ++ ys) ≡ None → first_of ys ≡ None
last_none xs ys h = (earlier_none (first_of xs) (first_of ys) (sym (first_of_append xs ys) ∙ h)).1
