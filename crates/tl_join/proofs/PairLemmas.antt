-- The pairs of two lists of rows do not depend on the order of the rows, and pairs of the same rows are one pair, so they have one
-- order.
use Rattle.std.proofs.Common.{◌≡◌, ℕ, zero, suc, ◌+◌, ℤ, Bool, true, false, ◌&&◌, not, cond, ◌==◌, int_le, int_lt, List, [], ◌∷◌, ◌++◌, length, Option, Some, None, refl, sym, ap, ◌∙◌, subst, arith, slice_get, sum_by, count_by, ◌⊎◌, inl, inr}
use mathlib.Core.Path.{fun_ext}
use Rattle.std.specs.Int.{int_min, int_max}
use Rattle.std.specs.List.{filter, filter_map, AllByRecursion}
use Rattle.std.specs.List.Sorted.{IsPermutation, IsSortedBy, IsStableBy, ties}
use Rattle.std.specs.Ordering.{is_lt, int_eq}
use Rattle.std.proofs.lemmas.Int.{ints}
use Rattle.std.proofs.lemmas.List.Sorted.{ranks_by, sum_by-IsPermutation}
use Rattle.std.proofs.lemmas.List.Sums.{sum_by-append, sum_by-cons, length-filter}
use Rattle.tl_types.specs.declared.runs.Pair.{Pair}
use Rattle.tl_query.specs.Ordered.{in_order, pair_before}
use Rattle.tl_query.proofs.PairOrder.{pair_order, pair_total, same_order, same_rows}
use Rattle.tl_query.proofs.Sorting.{sorted_is, tied_both}
use Rattle.tl_join.specs.declared.entries.Entry.{Entry}
use Rattle.tl_join.specs.Sweep.{AreSame, made, grid, AreOne}

-- SUMS OVER PAIRS

-- the sum of a pair, where there is one
abbrev pair_sum : (Pair → ℕ) → Option Pair → ℕ
pair_sum f None = 0
pair_sum f (Some p) = f p

row_sum : (f : Pair → ℕ) (h : Entry → Option Pair) (rs : List Entry) → sum_by f (filter_map h rs) ≡ sum_by (λ r. pair_sum f (h r)) rs
row_sum f h [] = refl
row_sum f h (r ∷ rs) = by_option (h r) refl (row_sum f h rs) where
  by_option : (o : Option Pair) → h r ≡ o → sum_by f (filter_map h rs) ≡ sum_by (λ r. pair_sum f (h r)) rs → sum_by f (filter_map h (r ∷ rs)) ≡ sum_by (λ r. pair_sum f (h r)) (r ∷ rs)
  by_option None e later =
      let a : sum_by (λ r. pair_sum f (h r)) (r ∷ rs) ≡ 0 + sum_by (λ r. pair_sum f (h r)) rs = sum_by-cons (λ r. pair_sum f (h r)) r rs ∙ ap (λ o. pair_sum f o + sum_by (λ r. pair_sum f (h r)) rs) e in
      let b : sum_by f (filter_map h (r ∷ rs)) ≡ sum_by f (filter_map h rs) = rw e refl in
      omega (arith, a, b, later)
  by_option (Some p) e later =
      let a : sum_by (λ r. pair_sum f (h r)) (r ∷ rs) ≡ f p + sum_by (λ r. pair_sum f (h r)) rs = sum_by-cons (λ r. pair_sum f (h r)) r rs ∙ ap (λ o. pair_sum f o + sum_by (λ r. pair_sum f (h r)) rs) e in
      let b : sum_by f (filter_map h (r ∷ rs)) ≡ sum_by f (p ∷ filter_map h rs) = rw e refl in
      let c = sum_by-cons f p (filter_map h rs) in
      omega (arith, a, b, c, later)

grid_sum : (f : Pair → ℕ) (first : ℤ) (ls rs : List Entry) → sum_by f (grid first ls rs) ≡ sum_by (λ l. sum_by f (filter_map (made first l) rs)) ls
grid_sum f first [] rs = refl
grid_sum f first (l ∷ ls) rs =
    let a = sum_by-append f (filter_map (made first l) rs) (grid first ls rs) in
    let b = sum_by-cons (λ l. sum_by f (filter_map (made first l) rs)) l ls in
    let c = grid_sum f first ls rs in
    omega (arith, a, b, c)

-- the pairs do not depend on the order of the rows
pub grid_same : (first : ℤ) (ls rs ms ss : List Entry) → AreSame ls ms → AreSame rs ss → AreSame (grid first ls rs) (grid first ms ss)
grid_same first ls rs ms ss left_same right_same f =
    let rows : (l : Entry) → sum_by f (filter_map (made first l) rs) ≡ sum_by f (filter_map (made first l) ss) = λ l. row_sum f (made first l) rs ∙ right_same (λ r. pair_sum f (made first l r)) ∙ sym (row_sum f (made first l) ss) in
    grid_sum f first ls rs ∙ left_same (λ l. sum_by f (filter_map (made first l) rs)) ∙ ap (λ (g : Entry → ℕ). sum_by g ms) (fun_ext rows) ∙ sym (grid_sum f first ms ss)

-- LISTS WITH THE SAME ITEMS, each as often

count_cons : {X : Type 0} (t : X → Bool) (x : X) (xs : List X) → count_by t (x ∷ xs) ≡ cond (t x) 1 0 + count_by t xs
count_cons t x xs = sum_by-cons (λ x. cond (t x) 1 0) x xs

count_step : {X : Type 0} (t : X → Bool) (x : X) (xs : List X) (b : Bool) → t x ≡ b → count_by t (x ∷ xs) ≡ cond b 1 0 + count_by t xs
count_step t x xs b e = count_cons t x xs ∙ ap (λ b. cond b 1 0 + count_by t xs) e

none_counted : {X : Type 0} (t : X → Bool) (xs : List X) → count_by t xs ≡ 0 → filter t xs ≡ []
none_counted t [] h = refl
none_counted t (x ∷ xs) h = by_test (t x) refl (none_counted t xs) where
  by_test : (b : Bool) → t x ≡ b → (count_by t xs ≡ 0 → filter t xs ≡ []) → filter t (x ∷ xs) ≡ []
  by_test true e later = absurd (let c = count_step t x xs true e in omega (arith, c, h))
  by_test false e later = let c = count_step t x xs false e in rw e (later (omega (arith, c, h)))

length_counted : {X : Type 0} (t : X → Bool) (xs : List X) → length (filter t xs) ≡ count_by t xs
length_counted t xs = length-filter t xs

-- the list has only the one item
abbrev Only : {X : Type 0} → X → List X → Type 0
Only x xs = AllByRecursion (λ y. x ≡ y) xs

only_same : {X : Type 0} (x : X) (xs ys : List X) → Only x xs → Only x ys → length xs ≡ length ys → xs ≡ ys
only_same x [] [] a b h = refl
only_same x [] (y ∷ ys) a b h = absurd (omega (arith, h))
only_same x (y ∷ xs) [] a b h = absurd (omega (arith, h))
only_same x (y ∷ xs) (z ∷ ys) a b h =
    let first : y ≡ z = sym a.0 ∙ b.0 in
    let rest : xs ≡ ys = only_same x xs ys a.1 b.1 (omega (arith, h)) in
    cc

module _ {X : Type 0} (eq : X → X → Bool) (sound : (x y : X) → eq x y ≡ true → x ≡ y) (self : (x : X) → eq x x ≡ true) where
  abbrev other : (X → Bool) → X → X → Bool
  other t x y = t y && not (eq x y)

  only_passed : (t : X → Bool) (x : X) (ys : List X) → count_by (other t x) ys ≡ 0 → Only x (filter t ys)
  only_passed t x [] h = tt
  only_passed t x (y ∷ ys) h = by_tests (t y) refl (eq x y) refl (only_passed t x ys) where
    by_tests : (b : Bool) → t y ≡ b → (d : Bool) → eq x y ≡ d → (count_by (other t x) ys ≡ 0 → Only x (filter t ys)) → Only x (filter t (y ∷ ys))
    by_tests true p true q later =
        let o : other t x y ≡ false = rw (p, q) refl in
        let c = count_step (other t x) y ys false o in
        rw p (sound x y q, later (omega (arith, c, h)))
    by_tests true p false q later = absurd (
        let o : other t x y ≡ true = rw (p, q) refl in
        let c = count_step (other t x) y ys true o in
        omega (arith, c, h))
    by_tests false p d q later =
        let o : other t x y ≡ false = rw p refl in
        let c = count_step (other t x) y ys false o in
        rw p (later (omega (arith, c, h)))

  module _ (P : X → Type 0) (t : X → Bool) (alike : (x y : X) → P x → P y → t x ≡ true → t y ≡ true → x ≡ y) where
    none_other : (x : X) (ys : List X) → P x → t x ≡ true → AllByRecursion P ys → count_by (other t x) ys ≡ 0
    none_other x [] p h all = refl
    none_other x (y ∷ ys) p h all = by_test (t y) refl (none_other x ys p h all.1) where
      by_test : (b : Bool) → t y ≡ b → count_by (other t x) ys ≡ 0 → count_by (other t x) (y ∷ ys) ≡ 0
      by_test true e later =
          let same : x ≡ y = alike x y p all.0 h e in
          let q : eq x y ≡ true = subst (λ z. eq x z ≡ true) same (self x) in
          let o : other t x y ≡ false = rw (e, q) refl in
          let c = count_step (other t x) y ys false o in
          omega (arith, c, later)
      by_test false e later =
          let o : other t x y ≡ false = rw e refl in
          let c = count_step (other t x) y ys false o in
          omega (arith, c, later)

    -- the first item that passes, where there is one
    some_passed : (ys : List X) → AllByRecursion P ys → (filter t ys ≡ []) ⊎ ((x : X) × P x × (t x ≡ true))
    some_passed [] all = inl refl
    some_passed (y ∷ ys) all = by_test (t y) refl (some_passed ys all.1) where
      by_test : (b : Bool) → t y ≡ b → (filter t ys ≡ []) ⊎ ((x : X) × P x × (t x ≡ true)) → (filter t (y ∷ ys) ≡ []) ⊎ ((x : X) × P x × (t x ≡ true))
      by_test true e later = inr (y, all.0, e)
      by_test false e later = rw e later

    pub same_filter : (xs ys : List X) → AreSame xs ys → AllByRecursion P ys → filter t xs ≡ filter t ys
    same_filter xs ys same all = by_case (some_passed ys all) where
      by_case : (filter t ys ≡ []) ⊎ ((x : X) × P x × (t x ≡ true)) → filter t xs ≡ filter t ys
      by_case (inl none) =
          let n : count_by t ys ≡ 0 = sym (length_counted t ys) ∙ ap length none in
          none_counted t xs (same (λ x. cond (t x) 1 0) ∙ n) ∙ sym none
      by_case (inr (x, p, h)) =
          let none = none_other x ys p h all in
          only_same x (filter t xs) (filter t ys) (only_passed t x xs (same (λ y. cond (other t x y) 1 0) ∙ none)) (only_passed t x ys none) (length_counted t xs ∙ same (λ x. cond (t x) 1 0) ∙ sym (length_counted t ys))

-- WHICH ROWS A PAIR IS OF

abbrev made_pair : ℤ → ℤ → ℕ → ℕ → Pair
made_pair from to left right = record { from = from; to = to; left = left; right = right }

abbrev same_pair : Pair → Pair → Bool
same_pair p q = int_eq p.from q.from && (int_eq p.to q.to && ((p.left == q.left) && (p.right == q.right)))

all_append : {X : Type 0} (P : X → Type 0) (xs ys : List X) → AllByRecursion P xs → AllByRecursion P ys → AllByRecursion P (xs ++ ys)
all_append P [] ys a b = b
all_append P (x ∷ xs) ys a b = (a.0, all_append P xs ys a.1 b)

-- the row is among these
abbrev IsIn : List Entry → Entry → Type 0
IsIn es e = (i : ℕ) × (slice_get es i ≡ Some e)

all_in : (all es : List Entry) (n : ℕ) → ((k : ℕ) → slice_get all (n + k) ≡ slice_get es k) → AllByRecursion (IsIn all) es
all_in all [] n h = tt
all_in all (e ∷ es) n h =
    let here : n + zero ≡ n = omega arith in
    ((n, ap (slice_get all) (sym here) ∙ h zero), all_in all es (n + 1) (λ k. let e : n + 1 + k ≡ n + suc k = omega arith in ap (slice_get all) e ∙ h (suc k)))

made_named : (first : ℤ) (l r : Entry) (p : Pair) → made first l r ≡ Some p → (p.left ≡ l.id) × (p.right ≡ r.id)
made_named first l r p h = by_test ((l.code == r.code) && (int_le first (int_max l.begin r.begin) && int_lt (int_max l.begin r.begin) (int_min l.end r.end))) h where
  by_test : (t : Bool) → cond t (Some (record { from = int_max l.begin r.begin; to = int_min l.end r.end; left = l.id; right = r.id })) None ≡ Some p → (p.left ≡ l.id) × (p.right ≡ r.id)
  by_test true h =
      let e : (record { from = int_max l.begin r.begin; to = int_min l.end r.end; left = l.id; right = r.id }) ≡ p = cc in
      (sym (ap (λ (q : Pair). q.left) e), sym (ap (λ (q : Pair). q.right) e))
  by_test false h = absurd (cc)

-- the pair is the one that two of the rows make
abbrev IsOf : ℤ → List Entry → List Entry → Pair → Type 0
IsOf first lefts rights p = (l : Entry) × (r : Entry) × IsIn lefts l × IsIn rights r × (made first l r ≡ Some p)

some_is : {X : Type 0} {x y : X} → Some x ≡ Some y → x ≡ y
some_is h = cc

one_pair : (first : ℤ) (lefts rights : List Entry) → AreOne lefts → AreOne rights → (p q : Pair) → IsOf first lefts rights p → IsOf first lefts rights q → ties (λ p q. is_lt (pair_order p q)) p q ≡ true → p ≡ q
one_pair first lefts rights one_left one_right p q (l, r, (i, a), (j, b), e) (m, s, (k, c), (n, d), f) h =
    let same = same_rows p q h in
    let at = made_named first l r p e in
    let others = made_named first m s q f in
    let left_same : l ≡ m = one_left i k l m a c (sym at.0 ∙ same.0 ∙ others.0) in
    let right_same : r ≡ s = one_right j n r s b d (sym at.1 ∙ same.1 ∙ others.1) in
    some_is (sym e ∙ ap (λ x. made first x r) left_same ∙ ap (made first m) right_same ∙ f)

right_pairs : (first : ℤ) (lefts rights : List Entry) (l : Entry) (rs : List Entry) → IsIn lefts l → AllByRecursion (IsIn rights) rs → AllByRecursion (IsOf first lefts rights) (filter_map (made first l) rs)
right_pairs first lefts rights l [] a all = tt
right_pairs first lefts rights l (r ∷ rs) a all = by_option (made first l r) refl (right_pairs first lefts rights l rs a all.1) where
  by_option : (o : Option Pair) → made first l r ≡ o → AllByRecursion (IsOf first lefts rights) (filter_map (made first l) rs) → AllByRecursion (IsOf first lefts rights) (filter_map (made first l) (r ∷ rs))
  by_option None e later = rw e later
  by_option (Some p) e later = rw e ((l, r, a, all.0, e), later)

left_pairs : (first : ℤ) (lefts rights ls rs : List Entry) → AllByRecursion (IsIn lefts) ls → AllByRecursion (IsIn rights) rs → AllByRecursion (IsOf first lefts rights) (grid first ls rs)
left_pairs first lefts rights [] rs a b = tt
left_pairs first lefts rights (l ∷ ls) rs a b = all_append (IsOf first lefts rights) _ _ (right_pairs first lefts rights l rs a.0 b) (left_pairs first lefts rights ls rs a.1 b)

pair_self : (p : Pair) → same_pair p p ≡ true
pair_self p = grind (arith, ints)

pair_sound : (p q : Pair) → same_pair p q ≡ true → p ≡ q
pair_sound p q h =
    let a : p.from ≡ q.from = grind (arith, ints) in
    let b : p.to ≡ q.to = grind (arith, ints) in
    let c : p.left ≡ q.left = grind (arith) in
    let d : p.right ≡ q.right = grind (arith) in
    equal p.from q.from p.to q.to p.left q.left p.right q.right a b c d where
      equal : (a b c d : ℤ) (i j k n : ℕ) → a ≡ b → c ≡ d → i ≡ j → k ≡ n → made_pair a c i k ≡ made_pair b d j n
      equal a b c d i j k n e f g h = cc

-- a sort leaves the pairs of two lists in the order of the definition, in which no two are of one place
pub walk_sorted : (first : ℤ) (lefts rights : List Entry) (given sorted : List Pair) → AreOne lefts → AreOne rights → AreSame given (grid first lefts rights) → IsSortedBy (λ p q. is_lt (pair_order p q)) sorted → IsPermutation given sorted → sorted ≡ in_order pair_before (grid first lefts rights)
walk_sorted first lefts rights given sorted one_left one_right same up moved =
    let pairs = grid first lefts rights in
    let P = IsOf first lefts rights in
    let all : AllByRecursion P pairs = left_pairs first lefts rights lefts rights (all_in lefts lefts zero (λ k. at_start lefts k)) (all_in rights rights zero (λ k. at_start rights k)) in
    let like = one_pair first lefts rights one_left one_right in
    let steady : IsStableBy (λ p q. is_lt (pair_order p q)) pairs sorted = λ x. same_filter same_pair pair_sound pair_self P (ties (λ p q. is_lt (pair_order p q)) x) (λ y z p q h k. like y z p q (tied_both (λ p q. is_lt (pair_order p q)) (ranks_by pair_total (λ p. p)) P like y z x h k)) sorted pairs (λ f. sum_by-IsPermutation f given sorted moved ∙ same f) all in
    sorted_is (λ p q. is_lt (pair_order p q)) (ranks_by pair_total (λ p. p)) P like pairs sorted all up steady ∙ ap (λ lt. in_order lt pairs) same_order where
      at_start : (xs : List Entry) (k : ℕ) → slice_get xs (zero + k) ≡ slice_get xs k
      at_start xs k = let e : zero + k ≡ k = omega arith in ap (slice_get xs) e
