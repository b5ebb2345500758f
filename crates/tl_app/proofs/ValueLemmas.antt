-- A key is one value: the items of several values are together no more than all items.
use Rattle.std.proofs.Common.{◌≡◌, ℕ, ◌+◌, ◌≤◌, length, arith, Bool, true, false, ◌||◌, cond, List, [], ◌∷◌, refl, sym, ap, ◌∙◌}
use Rattle.std.specs.List.{filter}
use Rattle.tl_types.specs.declared.cells.Cell.{Cell}
use Rattle.tl_types.specs.History.{same_cell}
use Rattle.tl_query.specs.Ordered.{has, Rises}
use Rattle.tl_query.proofs.CellOrder.{cell_equal}
use Rattle.tl_query.proofs.ValueOrder.{above_has}

-- the sum of a number for each item
abbrev pub total : {X : Type 0} → (X → ℕ) → List X → ℕ
total f [] = 0
total f (x ∷ xs) = f x + total f xs

abbrev pub one_if : Bool → ℕ
one_if b = cond b 1 0

count_none : (z : Cell) (xs : List Cell) → has xs z ≡ false → total (λ x. one_if (same_cell x z)) xs ≡ 0
count_none z [] h = refl
count_none z (x ∷ xs) h = by_test (same_cell x z) h (count_none z xs) where
  by_test : (b : Bool) → (b || has xs z) ≡ false → (has xs z ≡ false → total (λ x. one_if (same_cell x z)) xs ≡ 0) → one_if b + total (λ x. one_if (same_cell x z)) xs ≡ 0
  by_test true h later = absurd (cc)
  by_test false h later = let l = later h in omega arith

pub count_once : (z : Cell) (xs : List Cell) → Rises xs → total (λ x. one_if (same_cell x z)) xs ≤ 1
count_once z [] up = omega arith
count_once z (x ∷ xs) up = by_test (same_cell x z) refl (count_once z xs up.1) where
  by_test : (b : Bool) → same_cell x z ≡ b → total (λ x. one_if (same_cell x z)) xs ≤ 1 → one_if b + total (λ x. one_if (same_cell x z)) xs ≤ 1
  by_test true e later =
      let is = cell_equal x z e in
      let none = count_none z xs (ap (has xs) (sym is) ∙ above_has x xs up.0) in
      omega arith
  by_test false e later = omega arith

pub none_owed : (vs : List Cell) → total (λ v. 0) vs ≡ 0
none_owed [] = refl
none_owed (v ∷ vs) = let later = none_owed vs in omega arith

one_more : {X : Type 0} (b : Bool) (x : X) (ys : List X) → length (cond b (x ∷ ys) ys) ≡ one_if b + length ys
one_more true x ys = omega arith
one_more false x ys = omega arith

owed_head : {X : Type 0} (holds : Cell → X → Bool) (x : X) (xs : List X) (vs : List Cell) → total (λ v. length (filter (holds v) (x ∷ xs))) vs ≡ total (λ v. one_if (holds v x)) vs + total (λ v. length (filter (holds v) xs)) vs
owed_head holds x xs [] = refl
owed_head holds x xs (v ∷ vs) =
    let here = one_more (holds v x) x (filter (holds v) xs) in
    let later = owed_head holds x xs vs in
    omega arith

-- the items of each of some values are together no more than all items, where each is of one value
pub owed : {X : Type 0} (holds : Cell → X → Bool) (values : List Cell) (xs : List X) → ((x : X) → total (λ v. one_if (holds v x)) values ≤ 1) → total (λ v. length (filter (holds v) xs)) values ≤ length xs
owed holds values [] once = let none = none_owed values in omega arith
owed holds values (x ∷ xs) once =
    let later = owed holds values xs once in
    let here = once x in
    let split = owed_head holds x xs values in
    omega arith
