-- The values of a column: each once and in order, as a sort and a `dedup` leave them.
use Rattle.std.proofs.Common.{◌≡◌, Bool, true, false, ◌||◌, cond, List, [], ◌∷◌, map, refl, sym, ap, ◌∙◌}
use Rattle.std.specs.List.{list_any, fold, dedup, dedup_from, AllByRecursion}
use Rattle.std.specs.List.Sorted.{IsSorted, IsStrictlySortedBy, IsPermutation}
use Rattle.std.specs.declared.cmp.Ordering.TheVariants.{Less}
use Rattle.std.specs.Ordering.{is_lt}
use Rattle.std.specs.Cmp.{on_total}
use Rattle.std.proofs.lemmas.List.Sorted.{list_any-IsPermutation}
use Rattle.std.proofs.lemmas.List.Kept.{IsStrictlySortedBy-dedup}
use Rattle.tl_types.specs.declared.cells.Cell.{Cell}
use Rattle.tl_types.specs.contracts.cells.CellOrd.TheImpl as cells
use Rattle.tl_types.specs.History.{same_cell}
use Rattle.tl_query.specs.Ordered.{cell_before, with_value, has, Rises}
use Rattle.tl_query.proofs.CellOrder.{cell_total, cell_before_is, cell_same_is, cell_equal}
use Rattle.tl_query.proofs.ValueOrder.{values_same, has_fold, rises_fold}

module _ {X : Type 0} (key : X → Cell) (E : X → X → Bool) (same : (x y : X) → E x y ≡ same_cell (key x) (key y)) where
  has_from : (z : Cell) (x : X) (xs : List X) → has (map key (dedup_from E x xs)) z ≡ (same_cell (key x) z || has (map key xs) z)
  has_from z x [] = refl
  has_from z x (y ∷ ys) = by_test (E y x) refl (has_from z x ys) (has_from z y ys) where
    by_test : (b : Bool) → E y x ≡ b → has (map key (dedup_from E x ys)) z ≡ (same_cell (key x) z || has (map key ys) z) → has (map key (dedup_from E y ys)) z ≡ (same_cell (key y) z || has (map key ys) z) → has (map key (cond b (dedup_from E x ys) (x ∷ dedup_from E y ys))) z ≡ (same_cell (key x) z || (same_cell (key y) z || has (map key ys) z))
    by_test true e here later =
        let equal = cell_equal (key y) (key x) (sym (same y x) ∙ e) in
        here ∙ twice (same_cell (key x) z) (has (map key ys) z) ∙ ap (λ c. same_cell (key x) z || (same_cell c z || has (map key ys) z)) (sym equal) where
          twice : (a b : Bool) → (a || b) ≡ (a || (a || b))
          twice true b = refl
          twice false b = refl
    by_test false e here later = ap (λ b. same_cell (key x) z || b) later

  has_dedup : (z : Cell) (xs : List X) → has (map key (dedup E xs)) z ≡ has (map key xs) z
  has_dedup z [] = refl
  has_dedup z (x ∷ xs) = has_from z x xs

  all_keys : (x : X) (ys : List X) → AllByRecursion (λ y. cells.cmp-value.it (key x) (key y) ≡ Less) ys → AllByRecursion (λ c. cell_before (key x) c ≡ true) (map key ys)
  all_keys x [] all = tt
  all_keys x (y ∷ ys) all = (sym (cell_before_is (key x) (key y)) ∙ ap is_lt all.0, all_keys x ys all.1)

  rises_from : (xs : List X) → IsStrictlySortedBy (λ x y. cells.cmp-value.it (key x) (key y)) xs → Rises (map key xs)
  unfolding IsStrictlySortedBy
  rises_from [] up = tt
  rises_from (x ∷ xs) up = (all_keys x xs up.0, rises_from xs up.1)

  has_map : (z : Cell) (xs : List X) → has (map key xs) z ≡ list_any (λ x. same_cell (key x) z) xs
  has_map z [] = refl
  has_map z (x ∷ xs) = ap (λ b. same_cell (key x) z || b) (has_map z xs)

  pub values_left : (given sorted left : List X) → IsPermutation given sorted → IsSorted (λ x y. cells.cmp-value.it (key x) (key y)) sorted → left ≡ dedup E sorted → map key left ≡ fold with_value [] (map key given)
  values_left given sorted left moved up is =
      let strict = IsStrictlySortedBy-dedup (on_total key cell_total) {E = E} (λ x y. same x y ∙ sym (cell_same_is (key x) (key y))) sorted up in
      ap (map key) is ∙ values_same (map key (dedup E sorted)) (fold with_value [] (map key given)) (rises_from (dedup E sorted) strict) (rises_fold [] (map key given) tt) (λ z.
      has_dedup z sorted ∙ has_map z sorted ∙ sym (list_any-IsPermutation (λ x. same_cell (key x) z) given sorted moved) ∙ sym (has_map z given) ∙ or_false (has (map key given) z) ∙ sym (has_fold z [] (map key given))) where
        or_false : (b : Bool) → b ≡ (b || false)
        or_false true = refl
        or_false false = refl
