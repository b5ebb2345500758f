-- The ids of the rows that pass a test, where the first row has a number.
use Rattle.std.proofs.Common.{◌≡◌, ℕ, zero, suc, ◌+◌, ◌<◌, ◌≤◌, Bool, true, false, cond, nat_eq, List, [], ◌∷◌, slice_get, Option, Some, None, refl, sym, arith}
use Rattle.tl_types.specs.Plain as plain
use Rattle.tl_types.specs.Facts.{AscendFrom}
use Rattle.tl_types.specs.History.{has_id}

abbrev pub ids_at : (Option plain.Row → Bool) → ℕ → List plain.Row → List ℕ
ids_at passes n [] = []
ids_at passes n (r ∷ rows) = cond (passes (Some r)) (n ∷ ids_at passes (n + 1) rows) (ids_at passes (n + 1) rows)

pub ids_at-ascend : (passes : Option plain.Row → Bool) (n : ℕ) (rows : List plain.Row) → AscendFrom n (ids_at passes n rows)
ids_at-ascend passes n [] = tt
ids_at-ascend passes n (r ∷ rows) = split (passes (Some r)) (ids_at-ascend passes (n + 1) rows) where
  lower : (low high : ℕ) (ids : List ℕ) → low ≤ high → AscendFrom high ids → AscendFrom low ids
  lower low high [] h all = tt
  lower low high (id ∷ ids) h all = (let l = all.0 in omega arith, all.1)

  split : (b : Bool) → AscendFrom (n + 1) (ids_at passes (n + 1) rows) → AscendFrom n (cond b (n ∷ ids_at passes (n + 1) rows) (ids_at passes (n + 1) rows))
  split true later = (let h : n ≤ n = omega arith in h, later)
  split false later = lower n (n + 1) (ids_at passes (n + 1) rows) (omega arith) later

ids_at-past : (passes : Option plain.Row → Bool) (n : ℕ) (rows : List plain.Row) (m : ℕ) → m < n → has_id (ids_at passes n rows) m ≡ false
ids_at-past passes n [] m h = refl
ids_at-past passes n (r ∷ rows) m h = grind (arith, ids_at-past passes (n + 1) rows m (omega arith))

-- an id is there exactly where its row passes
pub ids_at-has : (passes : Option plain.Row → Bool) → passes None ≡ false → (n : ℕ) (rows : List plain.Row) (i : ℕ) → has_id (ids_at passes n rows) (n + i) ≡ passes (slice_get rows i)
ids_at-has passes none n [] i = sym none
ids_at-has passes none n (r ∷ rows) zero =
    let here : nat_eq n (n + 0) ≡ true = grind arith in
    let next : n + 0 < n + 1 = omega arith in
    split here (ids_at-past passes (n + 1) rows (n + 0) next) (passes (Some r)) where
      split : nat_eq n (n + 0) ≡ true → has_id (ids_at passes (n + 1) rows) (n + 0) ≡ false → (b : Bool) → has_id (cond b (n ∷ ids_at passes (n + 1) rows) (ids_at passes (n + 1) rows)) (n + 0) ≡ b
      split here past true = grind arith
      split here past false = past
ids_at-has passes none n (r ∷ rows) (suc i) = grind (arith, ids_at-has passes none (n + 1) rows i)
