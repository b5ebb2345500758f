-- The part of an ascending list that has a key, found from both ends.
use Rattle.std.proofs.Common.{◌≡◌, ℕ, zero, suc, ◌+◌, ◌<◌, ◌≤◌, Bool, true, false, ◌&&◌, ◌||◌, not, List, [], ◌∷◌, ◌++◌, length, take, drop, get_or, refl, sym, ap, ◌∙◌, arith}
use Rattle.std.proofs.lemmas.List.{append-nil, take-append-drop, length-drop, get_or-drop}
use Rattle.std.proofs.lemmas.List.Elements.{filter-append}
use Rattle.std.proofs.lemmas.List.Sorted.{sorted_far, list_any-IsPermutation}
use Rattle.std.specs.List.{filter, list_any}
use Rattle.std.specs.List.Sorted.{IsSortedBy, IsPartitionedBy, IsPartitionPoint, IsPermutation}
use Rattle.std.specs.Cmp.{IsStrictWeakOrder}

filter_front : {X : Type 0} (p : X → Bool) (xs : List X) (i : ℕ) → ((k : ℕ) (d : X) → k < i → k < length xs → p (get_or xs k d) ≡ true) → filter p (take i xs) ≡ take i xs
filter_front p [] zero h = refl
filter_front p [] (suc i) h = refl
filter_front p (x ∷ xs) zero h = refl
filter_front p (x ∷ xs) (suc i) h =
    let here : p x ≡ true = h 0 x (omega arith) (omega arith) in
    rw here (ap (λ ys. x ∷ ys) (filter_front p xs i (λ k d l m. h (suc k) d (omega arith) (omega arith))))

filter_none_front : {X : Type 0} (p : X → Bool) (xs : List X) (i : ℕ) → ((k : ℕ) (d : X) → k < i → k < length xs → p (get_or xs k d) ≡ false) → filter p (take i xs) ≡ []
filter_none_front p [] zero h = refl
filter_none_front p [] (suc i) h = refl
filter_none_front p (x ∷ xs) zero h = refl
filter_none_front p (x ∷ xs) (suc i) h =
    let here : p x ≡ false = h 0 x (omega arith) (omega arith) in
    rw here (filter_none_front p xs i (λ k d l m. h (suc k) d (omega arith) (omega arith)))

filter_none_back : {X : Type 0} (p : X → Bool) (xs : List X) (i : ℕ) → ((k : ℕ) (d : X) → i ≤ k → k < length xs → p (get_or xs k d) ≡ false) → filter p (drop i xs) ≡ []
filter_none_back p [] zero h = refl
filter_none_back p [] (suc i) h = refl
filter_none_back p (x ∷ xs) zero h =
    let here : p x ≡ false = h 0 x (omega arith) (omega arith) in
    rw here (filter_none_back p xs zero (λ k d l m. h (suc k) d (omega arith) (omega arith)))
filter_none_back p (x ∷ xs) (suc i) h = filter_none_back p xs i (λ k d l m. h (suc k) d (omega arith) (omega arith))

-- A TEST OF A LIST AND OF WHAT A STABLE SORT MADE OF IT

filter_none : {X : Type 0} (p : X → Bool) (zs : List X) → list_any p zs ≡ false → filter p zs ≡ []
filter_none p [] h = refl
filter_none p (z ∷ zs) h = by_test (p z) refl h (filter_none p zs) where
  by_test : (b : Bool) → p z ≡ b → (b || list_any p zs) ≡ false → (list_any p zs ≡ false → filter p zs ≡ []) → filter p (z ∷ zs) ≡ []
  by_test true e h none = absurd (cc)
  by_test false e h none = rw e (none h)

filter_one : {X : Type 0} (p : X → Bool) (zs us vs : List X) → list_any p zs ≡ true → ((z : X) → p z ≡ true → us ≡ vs) → us ≡ vs
filter_one p [] us vs h found = absurd (cc)
filter_one p (z ∷ zs) us vs h found = by_test (p z) refl h (λ k. filter_one p zs us vs k found) where
  by_test : (b : Bool) → p z ≡ b → (b || list_any p zs) ≡ true → (list_any p zs ≡ true → us ≡ vs) → us ≡ vs
  by_test true e h later = found z e
  by_test false e h later = later h

-- where the test is one of its ties, they agree on it
pub filter_found : {X : Type 0} (p : X → Bool) (xs ys : List X) → IsPermutation xs ys → ((z : X) → p z ≡ true → filter p ys ≡ filter p xs) → filter p ys ≡ filter p xs
filter_found p xs ys same found = by_any (list_any p xs) refl where
  by_any : (b : Bool) → list_any p xs ≡ b → filter p ys ≡ filter p xs
  by_any true e = filter_one p xs (filter p ys) (filter p xs) e found
  by_any false e = filter_none p ys (sym (list_any-IsPermutation p xs ys same) ∙ e) ∙ sym (filter_none p xs e)

module _ {X K : Type 0} (c : K → K → Bool) (o : IsStrictWeakOrder c) (key : X → K) where
  -- the key is as high as the item's
  abbrev pub is_level : K → X → Bool
  is_level k x = not (c k (key x)) && not (c (key x) k)

  below : (x y : X) (k : K) → c (key y) (key x) ≡ false → c (key y) k ≡ true → c (key x) k ≡ true
  below x y k h l = by_test (c (key x) k) refl where
    by_test : (b : Bool) → c (key x) k ≡ b → b ≡ true
    by_test true e = refl
    by_test false e = absurd (let f = o.chain (key y) (key x) k h e in cc)

  by_key : X → X → Bool
  by_key x y = c (key x) (key y)

  order : IsStrictWeakOrder (λ (x y : X). c (key x) (key y))
  order = record { one_way = λ x y. o.one_way (key x) (key y); chain = λ x y z. o.chain (key x) (key y) (key z) }

  pub splits_below : (xs : List X) (k : K) → IsSortedBy (λ x y. c (key x) (key y)) xs → IsPartitionedBy (λ y. c (key y) k) xs
  splits_below xs k up i j d a b h = below (get_or xs i d) (get_or xs j d) k (sorted_far (λ x y. c (key x) (key y)) order xs up i j d a b) h

  level_parts : (a b : Bool) → (not a && not b) ≡ true → (a ≡ false) × (b ≡ false)
  level_parts true b h = absurd (cc)
  level_parts false true h = absurd (cc)
  level_parts false false h = (refl, refl)

  -- among those that are not below the key, those that have it come first
  pub splits_level : (xs : List X) (k : K) (from : ℕ) → IsSortedBy (λ x y. c (key x) (key y)) xs → from ≤ length xs → IsPartitionPoint (λ y. c (key y) k ≡ true) (λ y. c (key y) k ≡ false) xs from → IsPartitionedBy (is_level k) (drop from xs)
  splits_level xs k from up within point i j d a b h =
      let long = length-drop from xs in
      let first : get_or (drop from xs) i d ≡ get_or xs (from + i) d = get_or-drop from xs i d in
      let later : get_or (drop from xs) j d ≡ get_or xs (from + j) d = get_or-drop from xs j d in
      let far : c (key (get_or xs (from + j) d)) (key (get_or xs (from + i) d)) ≡ false = sorted_far (λ x y. c (key x) (key y)) order xs up (from + i) (from + j) d (omega arith) (omega arith) in
      let low : c (key (get_or xs (from + i) d)) k ≡ false = point.1 (from + i) d (omega arith) (omega arith) in
      let parts = level_parts (c k (key (get_or (drop from xs) j d))) (c (key (get_or (drop from xs) j d)) k) h in
      let high : c k (key (get_or xs (from + i) d)) ≡ false = o.chain k (key (get_or xs (from + j) d)) (key (get_or xs (from + i) d)) (rw later at parts.0) far in
      rw (first, high, low) refl

  -- those between the two points are those that have the key
  pub found_between : (xs : List X) (k : K) (from to : ℕ) → IsSortedBy (λ x y. c (key x) (key y)) xs → from ≤ length xs → IsPartitionPoint (λ y. c (key y) k ≡ true) (λ y. c (key y) k ≡ false) xs from → IsPartitionPoint (λ y. is_level k y ≡ true) (λ y. is_level k y ≡ false) (drop from xs) to → take to (drop from xs) ≡ filter (is_level k) xs
  found_between xs k from to up within low level =
      let p = is_level k in
      let front : filter p (take from xs) ≡ [] = filter_none_front p xs from (λ j d l m. rw (low.0 j d (omega arith) l) (and_false (not (c k (key (get_or xs j d)))))) in
      let middle : filter p (take to (drop from xs)) ≡ take to (drop from xs) = filter_front p (drop from xs) to (λ j d l m. level.0 j d (omega arith) l) in
      let back : filter p (drop to (drop from xs)) ≡ [] = filter_none_back p (drop from xs) to (λ j d l m. level.1 j d l m) in
      sym (
      ap (filter p) (sym (take-append-drop from xs)) ∙ filter-append p (take from xs) (drop from xs) ∙ ap (λ ys. ys ++ filter p (drop from xs)) front
      ∙ ap (filter p) (sym (take-append-drop to (drop from xs))) ∙ filter-append p (take to (drop from xs)) (drop to (drop from xs)) ∙ ap (λ ys. ys ++ filter p (drop to (drop from xs))) middle
      ∙ ap (λ ys. take to (drop from xs) ++ ys) back ∙ append-nil (take to (drop from xs))) where
        and_false : (b : Bool) → (b && false) ≡ false
        and_false true = refl
        and_false false = refl
