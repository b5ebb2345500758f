-- The order of pairs. Pairs of the same rows are one pair, so the pairs of a join have one order.
use Rattle.std.proofs.Common.{◌≡◌, ℕ, suc, ◌+◌, ℤ, Bool, true, false, ◌&&◌, ◌||◌, not, cond, ◌==◌, int_lt, nat_lt, List, [], ◌∷◌, ◌++◌, Option, Some, None, refl, sym, ap, ◌∙◌, arith, slice_get}
use mathlib.Core.Path.{fun_ext}
use Rattle.std.specs.List.{enumerate_from, filter, filter_map, flat_map, AllByRecursion}
use Rattle.std.specs.List.Sorted.{IsSortedBy, IsStableBy, ties}
use Rattle.std.specs.declared.cmp.Ordering.{Ordering}
use Rattle.std.specs.declared.cmp.Ordering.TheVariants.{Less, Equal, Greater}
use Rattle.std.specs.Ordering.{is_lt, is_eq, int_eq, int_cmp, nat_cmp, ordering_then, ordering_reverse}
use Rattle.std.specs.Cmp.{IsTotalOrder, on_total, then_total, int_cmp_total, nat_cmp_total, unsigned_tied, unsigned_Decides}
use Rattle.std.proofs.lemmas.List.Sorted.{ranks_by}
use Rattle.tl_types.specs.declared.runs.Pair.{Pair}
use Rattle.tl_types.specs.Plain as plain
use Rattle.tl_types.proofs.ValidEventOrder.{int_before, nat_before}
use Rattle.tl_query.specs.declared.typed_queries.Span.{Span}
use Rattle.tl_query.specs.declared.typed_queries.TypedPred.{TypedPred}
use Rattle.tl_query.specs.Ordered.{in_order, pair_before}
use Rattle.tl_query.specs.Joins.{common_pair, match_rows, pair_of, pairs_of, times_of}
use Rattle.tl_query.proofs.Sorting.{sorted_is, order_filtered}

-- THE ORDER OF PAIRS

-- by first moment, left row and right row
abbrev pub pair_order : Pair → Pair → Ordering
pair_order p q = ordering_then (ordering_then (int_cmp p.from q.from) (nat_cmp p.left q.left)) (nat_cmp p.right q.right)

pub pair_total : IsTotalOrder pair_order
pair_total = then_total (then_total (on_total (λ (p : Pair). p.from) int_cmp_total) (on_total (λ (p : Pair). p.left) nat_cmp_total)) (on_total (λ (p : Pair). p.right) nat_cmp_total)

before_then : (a b c : Ordering) → is_lt (ordering_then (ordering_then a b) c) ≡ (is_lt a || is_eq a && (is_lt b || is_eq b && is_lt c))
before_then Less b c = refl
before_then Greater b c = refl
before_then Equal Less c = refl
before_then Equal Equal c = refl
before_then Equal Greater c = refl

before_is : (p q : Pair) → is_lt (pair_order p q) ≡ pair_before p q
before_is p q =
    before_then (int_cmp p.from q.from) (nat_cmp p.left q.left) (nat_cmp p.right q.right)
    ∙ ap (λ b. b || int_eq p.from q.from && (is_lt (nat_cmp p.left q.left) || is_eq (nat_cmp p.left q.left) && is_lt (nat_cmp p.right q.right))) (int_before p.from q.from)
    ∙ ap (λ b. int_lt p.from q.from || int_eq p.from q.from && (b || is_eq (nat_cmp p.left q.left) && is_lt (nat_cmp p.right q.right))) (nat_before p.left q.left)
    ∙ ap (λ b. int_lt p.from q.from || int_eq p.from q.from && (nat_lt p.left q.left || b && is_lt (nat_cmp p.right q.right))) (unsigned_tied p.left q.left)
    ∙ ap (λ b. int_lt p.from q.from || int_eq p.from q.from && (nat_lt p.left q.left || (p.left == q.left) && b)) (nat_before p.right q.right)

pub same_order : (λ p q. is_lt (pair_order p q)) ≡ pair_before
same_order = fun_ext (λ p. fun_ext (λ q. before_is p q))

level : (r : Ordering) → (not (is_lt r) && not (is_lt (ordering_reverse r))) ≡ true → r ≡ Equal
level Less h = absurd (cc)
level Equal h = refl
level Greater h = absurd (cc)

level_parts : (a b c : Ordering) → ordering_then (ordering_then a b) c ≡ Equal → (is_eq b ≡ true) × (is_eq c ≡ true)
level_parts Less b c h = absurd (cc)
level_parts Greater b c h = absurd (cc)
level_parts Equal Less c h = absurd (cc)
level_parts Equal Greater c h = absurd (cc)
level_parts Equal Equal Less h = absurd (cc)
level_parts Equal Equal Greater h = absurd (cc)
level_parts Equal Equal Equal h = (refl, refl)

pub same_rows : (p q : Pair) → ties (λ p q. is_lt (pair_order p q)) p q ≡ true → (p.left ≡ q.left) × (p.right ≡ q.right)
same_rows p q h =
    let turned : pair_order q p ≡ ordering_reverse (pair_order p q) = pair_total.antisymm q p in
    let equal : pair_order p q ≡ Equal = level (pair_order p q) (ap (λ r. not (is_lt (pair_order p q)) && not (is_lt r)) (sym turned) ∙ h) in
    let parts = level_parts (int_cmp p.from q.from) (nat_cmp p.left q.left) (nat_cmp p.right q.right) equal in
    ((unsigned_Decides p.left q.left).0 (sym (unsigned_tied p.left q.left) ∙ parts.0), (unsigned_Decides p.right q.right).0 (sym (unsigned_tied p.right q.right) ∙ parts.1))

-- WHICH ROWS A PAIR IS OF

all_append : {X : Type 0} (P : X → Type 0) (xs ys : List X) → AllByRecursion P xs → AllByRecursion P ys → AllByRecursion P (xs ++ ys)
all_append P [] ys a b = b
all_append P (x ∷ xs) ys a b = (a.0, all_append P xs ys a.1 b)

numbered_at : {X : Type 0} (all xs : List X) (n : ℕ) → ((k : ℕ) → slice_get all (n + k) ≡ slice_get xs k) → AllByRecursion (λ e. slice_get all e.0 ≡ Some e.1) (enumerate_from n xs)
numbered_at all [] n h = tt
numbered_at all (x ∷ xs) n h =
    let here : n + 0 ≡ n = omega arith in
    (ap (slice_get all) (sym here) ∙ h 0, numbered_at all xs (n + 1) (λ k. let e : n + 1 + k ≡ n + suc k = omega arith in ap (slice_get all) e ∙ h (suc k)))

from_named : (t : Bool) (from to : ℤ) (i j : ℕ) (p : Pair) → cond t (Some (record { from = from; to = to; left = i; right = j })) None ≡ Some p → (p.left ≡ i) × (p.right ≡ j)
from_named false from to i j p h = absurd (cc)
from_named true from to i j p h =
    let e : (record { from = from; to = to; left = i; right = j }) ≡ p = cc in
    (sym (ap (λ (q : Pair). q.left) e), sym (ap (λ (q : Pair). q.right) e))

common_named : (span : Span) (i j : ℕ) (o q : Option plain.Period) (p : Pair) → common_pair span i j o q ≡ Some p → (p.left ≡ i) × (p.right ≡ j)
common_named span i j None q p h = absurd (cc)
common_named span i j (Some a) None p h = absurd (cc)
common_named span i j (Some a) (Some b) p h = from_named _ _ _ i j p h

module _ (left_pred right_pred : TypedPred) (left_on right_on : ℕ) (span : Span) where
  -- the pair that two rows make
  abbrev made_by : ℕ × plain.Row → ℕ × plain.Row → Option Pair
  made_by = pair_of left_pred right_pred left_on right_on span

  made_named : (l r : ℕ × plain.Row) (p : Pair) → made_by l r ≡ Some p → (p.left ≡ l.0) × (p.right ≡ r.0)
  made_named l r p h = by_test (match_rows left_pred right_pred left_on right_on l.1 r.1) h where
    by_test : (t : Bool) → cond t (common_pair span l.0 r.0 (times_of span l.1) (times_of span r.1)) None ≡ Some p → (p.left ≡ l.0) × (p.right ≡ r.0)
    by_test true h = common_named span l.0 r.0 (times_of span l.1) (times_of span r.1) p h
    by_test false h = absurd (cc)

  -- the pair is the one that its rows make
  abbrev IsOfRows : List plain.Row → List plain.Row → Pair → Type 0
  IsOfRows lefts rights p = (l : plain.Row) × (r : plain.Row) × (slice_get lefts p.left ≡ Some l) × (slice_get rights p.right ≡ Some r) × (made_by (p.left, l) (p.right, r) ≡ Some p)

  one_pair : (lefts rights : List plain.Row) (p q : Pair) → IsOfRows lefts rights p → IsOfRows lefts rights q → ties (λ p q. is_lt (pair_order p q)) p q ≡ true → p ≡ q
  one_pair lefts rights p q (l, r, a, b, e) (m, s, c, d, f) h =
      let same = same_rows p q h in
      let left_same : l ≡ m = some_is (sym a ∙ ap (slice_get lefts) same.0 ∙ c) in
      let right_same : r ≡ s = some_is (sym b ∙ ap (slice_get rights) same.1 ∙ d) in
      some_is (sym e ∙ ap (λ n. made_by (n, l) (p.right, r)) same.0 ∙ ap (λ n. made_by (q.left, l) (n, r)) same.1 ∙ ap (λ x. made_by (q.left, x) (q.right, r)) left_same ∙ ap (λ x. made_by (q.left, m) (q.right, x)) right_same ∙ f) where
        some_is : {X : Type 0} {x y : X} → Some x ≡ Some y → x ≡ y
        some_is h = cc

  of_rows : (lefts rights : List plain.Row) (l r : ℕ × plain.Row) (p : Pair) → slice_get lefts l.0 ≡ Some l.1 → slice_get rights r.0 ≡ Some r.1 → made_by l r ≡ Some p → IsOfRows lefts rights p
  of_rows lefts rights l r p a b h =
      let names = made_named l r p h in
      (l.1, r.1, ap (slice_get lefts) names.0 ∙ a, ap (slice_get rights) names.1 ∙ b, ap (λ n. made_by (n, l.1) (p.right, r.1)) names.0 ∙ ap (λ n. made_by (l.0, l.1) (n, r.1)) names.1 ∙ h)

  right_pairs : (lefts rights : List plain.Row) (l : ℕ × plain.Row) (rs : List (ℕ × plain.Row)) → slice_get lefts l.0 ≡ Some l.1 → AllByRecursion (λ r. slice_get rights r.0 ≡ Some r.1) rs → AllByRecursion (IsOfRows lefts rights) (filter_map (made_by l) rs)
  right_pairs lefts rights l [] a all = tt
  right_pairs lefts rights l (r ∷ rs) a all = by_option (made_by l r) refl (right_pairs lefts rights l rs a all.1) where
    by_option : (o : Option Pair) → made_by l r ≡ o → AllByRecursion (IsOfRows lefts rights) (filter_map (made_by l) rs) → AllByRecursion (IsOfRows lefts rights) (filter_map (made_by l) (r ∷ rs))
    by_option None e later = rw e later
    by_option (Some p) e later = rw e (of_rows lefts rights l r p a all.0 e, later)

  left_pairs : (lefts rights : List plain.Row) (ls rs : List (ℕ × plain.Row)) → AllByRecursion (λ l. slice_get lefts l.0 ≡ Some l.1) ls → AllByRecursion (λ r. slice_get rights r.0 ≡ Some r.1) rs → AllByRecursion (IsOfRows lefts rights) (flat_map (λ l. filter_map (made_by l) rs) ls)
  left_pairs lefts rights [] rs a b = tt
  left_pairs lefts rights (l ∷ ls) rs a b = all_append (IsOfRows lefts rights) _ _ (right_pairs lefts rights l rs a.0 b) (left_pairs lefts rights ls rs a.1 b)

  -- a stable sort leaves the pairs of all rows in the order of the definition
  pub pairs_sorted : (lefts rights : List plain.Row) (given sorted : List Pair) → given ≡ pairs_of left_pred right_pred left_on right_on span lefts rights → IsSortedBy (λ p q. is_lt (pair_order p q)) sorted → IsStableBy (λ p q. is_lt (pair_order p q)) given sorted → sorted ≡ in_order pair_before (pairs_of left_pred right_pred left_on right_on span lefts rights)
  pairs_sorted lefts rights given sorted is up stable =
      let all : AllByRecursion (IsOfRows lefts rights) given = rw is (left_pairs lefts rights (enumerate_from 0 lefts) (enumerate_from 0 rights) (numbered_at lefts lefts 0 (λ k. at_start lefts k)) (numbered_at rights rights 0 (λ k. at_start rights k))) in
      sorted_is (λ p q. is_lt (pair_order p q)) (ranks_by pair_total (λ p. p)) (IsOfRows lefts rights) (one_pair lefts rights) given sorted all up stable ∙ ap (λ lt. in_order lt given) same_order ∙ ap (in_order pair_before) is where
        at_start : (xs : List plain.Row) (k : ℕ) → slice_get xs (0 + k) ≡ slice_get xs k
        at_start xs k = let e : 0 + k ≡ k = omega arith in ap (slice_get xs) e

  all_filtered : {X : Type 0} (P : X → Type 0) (t : X → Bool) (xs : List X) → AllByRecursion P xs → AllByRecursion P (filter t xs)
  all_filtered P t [] h = tt
  all_filtered P t (x ∷ xs) h = by_test (t x) refl (all_filtered P t xs h.1) where
    by_test : (b : Bool) → t x ≡ b → AllByRecursion P (filter t xs) → AllByRecursion P (filter t (x ∷ xs))
    by_test true e later = rw e (h.0, later)
    by_test false e later = rw e later

  -- a part of the pairs in order is the part, in order
  pub part_in_order : (t : Pair → Bool) (lefts rights : List plain.Row) → filter t (in_order pair_before (pairs_of left_pred right_pred left_on right_on span lefts rights)) ≡ in_order pair_before (filter t (pairs_of left_pred right_pred left_on right_on span lefts rights))
  part_in_order t lefts rights =
      let pairs = pairs_of left_pred right_pred left_on right_on span lefts rights in
      let all : AllByRecursion (IsOfRows lefts rights) pairs = left_pairs lefts rights (enumerate_from 0 lefts) (enumerate_from 0 rights) (numbered_at lefts lefts 0 (λ k. at_start lefts k)) (numbered_at rights rights 0 (λ k. at_start rights k)) in
      ap (λ lt. filter t (in_order lt pairs)) (sym same_order)
      ∙ order_filtered (λ p q. is_lt (pair_order p q)) (ranks_by pair_total (λ p. p)) (IsOfRows lefts rights) (one_pair lefts rights) t pairs all (all_filtered (IsOfRows lefts rights) t pairs all)
      ∙ ap (λ lt. in_order lt (filter t pairs)) same_order where
        at_start : (xs : List plain.Row) (k : ℕ) → slice_get xs (0 + k) ≡ slice_get xs k
        at_start xs k = let e : 0 + k ≡ k = omega arith in ap (slice_get xs) e
