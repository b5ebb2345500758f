-- The least and the greatest of the numbers of a bag.
use Rattle.std.proofs.Common.{◌≡◌, ℕ, ◌+◌, ◌<◌, ◌⊎◌, inl, inr, ℤ, ◌≤ℤ◌, true, false, cond, List, [], ◌∷◌, fold, refl, sym, ap, ◌∙◌, arith, subst}
use Rattle.std.specs.List.{count_by}
use Rattle.std.specs.Int.{int_min, int_max}
use Rattle.std.specs.Ordering.{int_eq}
use Rattle.std.proofs.lemmas.Bool.{cases_Bool, cond-true, cond-false}
use Rattle.std.proofs.lemmas.Bool.Decides.{Decides-int_eq}
use Rattle.std.proofs.lemmas.Cmp.{int_eq_equiv}
use Rattle.std.proofs.lemmas.List.Sums.{sum_by-append}
use Rattle.std.proofs.lemmas.Int.{ints, clamps}
use Rattle.tl_types.specs.declared.answers.Field.TheVariants as field
use Rattle.tl_bits.specs.Bags.{times, IsLeast, IsGreatest}
use Rattle.tl_query.specs.Aggregates.{least_field, greatest_field}

-- COUNTS

pub counted_first : (v x : ℤ) (xs : List ℤ) → count_by (int_eq v) (x ∷ xs) ≡ cond (int_eq v x) 1 0 + count_by (int_eq v) xs
counted_first v x xs = let z : 0 + cond (int_eq v x) 1 0 ≡ cond (int_eq v x) 1 0 = omega arith in sum_by-append (λ n. cond (int_eq v n) 1 0) (x ∷ []) xs ∙ ap (λ n. n + count_by (int_eq v) xs) z

pub counted_own : (v : ℤ) (xs : List ℤ) → 0 < count_by (int_eq v) (v ∷ xs)
counted_own v xs =
    let e = counted_first v v xs in
    let s : cond {A = ℕ} (int_eq v v) 1 0 ≡ 1 = cond-true (int_eq v v) 1 0 (int_eq_equiv.refl v) in omega arith

module _ (op : ℤ → ℤ → ℤ) (R : ℤ → ℤ → Type 0) (reflx : (x : ℤ) → R x x) (trans : (x y z : ℤ) → R x y → R y z → R x z)
    (picks : (x y : ℤ) → (op x y ≡ x) ⊎ (op x y ≡ y)) (left : (x y : ℤ) → R (op x y) x) (right : (x y : ℤ) → R (op x y) y) where
  -- each counted number is above the fold
  pub fold_bounds : (x : ℤ) (xs : List ℤ) (v : ℤ) → 0 < count_by (int_eq v) (x ∷ xs) → R (fold op x xs) v
  fold_bounds x [] v some = by_test (cases_Bool (int_eq v x)) where
    by_test : (int_eq v x ≡ true) ⊎ (int_eq v x ≡ false) → R x v
    by_test (inl same) = subst (R x) (sym ((Decides-int_eq v x).0 same)) (reflx x)
    by_test (inr other) = absurd (let e = counted_first v x [] in let c : cond {A = ℕ} (int_eq v x) 1 0 ≡ 0 = cond-false (int_eq v x) 1 0 other in omega arith)
  fold_bounds x (y ∷ xs) v some =
      by_test (cases_Bool (int_eq v x)) (cases_Bool (int_eq v y)) (λ w h. fold_bounds (op x y) xs w h) where
        by_test : (int_eq v x ≡ true) ⊎ (int_eq v x ≡ false) → (int_eq v y ≡ true) ⊎ (int_eq v y ≡ false)
            → ((w : ℤ) → 0 < count_by (int_eq w) (op x y ∷ xs) → R (fold op (op x y) xs) w) → R (fold op (op x y) xs) v
        by_test (inl same) k ih = subst (R (fold op (op x y) xs)) (sym ((Decides-int_eq v x).0 same)) (trans (fold op (op x y) xs) (op x y) x (ih (op x y) (counted_own (op x y) xs)) (left x y))
        by_test (inr other) (inl same) ih = subst (R (fold op (op x y) xs)) (sym ((Decides-int_eq v y).0 same)) (trans (fold op (op x y) xs) (op x y) y (ih (op x y) (counted_own (op x y) xs)) (right x y))
        by_test (inr other) (inr none) ih =
            let a = counted_first v x (y ∷ xs) in
            let b = counted_first v y xs in
            let c = counted_first v (op x y) xs in
            let d : cond {A = ℕ} (int_eq v x) 1 0 ≡ 0 = cond-false (int_eq v x) 1 0 other in
            let e : cond {A = ℕ} (int_eq v y) 1 0 ≡ 0 = cond-false (int_eq v y) 1 0 none in
            ih v (omega arith)

  -- the fold is counted
  pub fold_counted : (x : ℤ) (xs : List ℤ) → 0 < count_by (int_eq (fold op x xs)) (x ∷ xs)
  fold_counted x [] = counted_own x []
  fold_counted x (y ∷ xs) = by_pick (picks x y) (fold_counted (op x y) xs) where
    by_pick : (op x y ≡ x) ⊎ (op x y ≡ y) → 0 < count_by (int_eq (fold op (op x y) xs)) (op x y ∷ xs) → 0 < count_by (int_eq (fold op (op x y) xs)) (x ∷ y ∷ xs)
    by_pick (inl is) ih =
        let r = fold op (op x y) xs in
        let h : 0 < count_by (int_eq r) (x ∷ xs) = subst (λ z. 0 < count_by (int_eq r) (z ∷ xs)) is ih in
        let a = counted_first r x (y ∷ xs) in
        let b = counted_first r y xs in
        let c = counted_first r x xs in omega arith
    by_pick (inr is) ih =
        let r = fold op (op x y) xs in
        let h : 0 < count_by (int_eq r) (y ∷ xs) = subst (λ z. 0 < count_by (int_eq r) (z ∷ xs)) is ih in
        let a = counted_first r x (y ∷ xs) in
        let b = counted_first r y xs in
        let c = counted_first r y xs in omega arith

min_picks : (x y : ℤ) → (int_min x y ≡ x) ⊎ (int_min x y ≡ y)
min_picks x y = grind (arith, ints, clamps)

max_picks : (x y : ℤ) → (int_max x y ≡ x) ⊎ (int_max x y ≡ y)
max_picks x y = grind (arith, ints, clamps)

min_left : (x y : ℤ) → int_min x y ≤ℤ x
min_left x y = grind (arith, ints, clamps)

min_right : (x y : ℤ) → int_min x y ≤ℤ y
min_right x y = grind (arith, ints, clamps)

max_left : (x y : ℤ) → x ≤ℤ int_max x y
max_left x y = grind (arith, ints, clamps)

max_right : (x y : ℤ) → y ≤ℤ int_max x y
max_right x y = grind (arith, ints, clamps)

le_trans : (x y z : ℤ) → x ≤ℤ y → y ≤ℤ z → x ≤ℤ z
le_trans x y z a b = omega (arith, ints)

le_refl : (x : ℤ) → x ≤ℤ x
le_refl x = omega (arith, ints)

ge_trans : (x y z : ℤ) → y ≤ℤ x → z ≤ℤ y → z ≤ℤ x
ge_trans x y z a b = omega (arith, ints)

same_both : (x y : ℤ) → x ≤ℤ y → y ≤ℤ x → x ≡ y
same_both x y a b = omega (arith, ints)

pub least_told : (bag : List (ℤ × ℕ)) (ns : List ℤ) (n : ℤ) → ((v : ℤ) → times bag v ≡ count_by (int_eq v) ns) → IsLeast bag n → field.Number n ≡ least_field ns
least_told bag [] n are is = absurd (let e : times bag n ≡ 0 = are n in let t = is.there in omega arith)
least_told bag (x ∷ xs) n are is =
    let r = fold int_min x xs in
    let under : r ≤ℤ n = fold_bounds int_min (λ a b. a ≤ℤ b) le_refl le_trans min_picks min_left min_right x xs n (subst (λ k. 0 < k) (are n) is.there) in
    let over : n ≤ℤ r = is.below r (subst (λ k. 0 < k) (sym (are r)) (fold_counted int_min (λ a b. a ≤ℤ b) le_refl le_trans min_picks min_left min_right x xs)) in
    ap field.Number (same_both n r over under)

pub greatest_told : (bag : List (ℤ × ℕ)) (ns : List ℤ) (n : ℤ) → ((v : ℤ) → times bag v ≡ count_by (int_eq v) ns) → IsGreatest bag n → field.Number n ≡ greatest_field ns
greatest_told bag [] n are is = absurd (let e : times bag n ≡ 0 = are n in let t = is.there in omega arith)
greatest_told bag (x ∷ xs) n are is =
    let r = fold int_max x xs in
    let over : n ≤ℤ r = fold_bounds int_max (λ a b. b ≤ℤ a) le_refl ge_trans max_picks max_left max_right x xs n (subst (λ k. 0 < k) (are n) is.there) in
    let under : r ≤ℤ n = is.above r (subst (λ k. 0 < k) (sym (are r)) (fold_counted int_max (λ a b. b ≤ℤ a) le_refl ge_trans max_picks max_left max_right x xs)) in
    ap field.Number (same_both n r over under)

pub least_none : (bag : List (ℤ × ℕ)) (ns : List ℤ) → ((v : ℤ) → times bag v ≡ count_by (int_eq v) ns) → ((v : ℤ) → times bag v ≡ 0) → field.Empty ≡ least_field ns
least_none bag [] are none = refl
least_none bag (x ∷ xs) are none = absurd (let c = counted_own x xs in let a = are x in let b = none x in omega arith)

pub greatest_none : (bag : List (ℤ × ℕ)) (ns : List ℤ) → ((v : ℤ) → times bag v ≡ count_by (int_eq v) ns) → ((v : ℤ) → times bag v ≡ 0) → field.Empty ≡ greatest_field ns
greatest_none bag [] are none = refl
greatest_none bag (x ∷ xs) are none = absurd (let c = counted_own x xs in let a = are x in let b = none x in omega arith)
