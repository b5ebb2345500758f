-- The ids at the places of small keys.
use Rattle.std.proofs.Common.{false, Bool, ℤ, ◌≡◌, ℕ, zero, suc, pos, negsuc, ◌<◌, true, ◌&&◌, ◌||◌, not, cond, nat_eq, List, [], ◌∷◌, length, slice_get, slice_set, slice_index_or, Some, refl, ap, arith}
use Rattle.std.proofs.lemmas.Int.{ints}
use Rattle.std.proofs.lemmas.Option.{slice_get-get_or}
use Rattle.std.specs.Cmp.{signed_Decides}
use Rattle.std.specs.Ordering.{int_eq}
use Rattle.tl_types.specs.declared.cells.Cell.{Cell}
use Rattle.tl_types.specs.declared.cells.Cell.TheVariants as cell
use Rattle.tl_types.specs.History.{same_cell}
use Rattle.tl_batch.specs.declared.two_ids.TwoIds.{TwoIds}
use Rattle.tl_batch.specs.KeyIndex.{SmallIds, is_of_two, is_among_two, has_number, has_two, in_set_of, has_small}

-- AT ONE PLACE

pub put_at : {X : Type 0} (xs : List X) (place i : ℕ) (w : X) → place < length xs → slice_get (slice_set xs place w) i ≡ cond (nat_eq i place) (Some w) (slice_get xs i)
put_at [] place i w h = absurd (omega arith)
put_at (x ∷ xs) zero zero w h = refl
put_at (x ∷ xs) zero (suc i) w h = grind arith
put_at (x ∷ xs) (suc place) zero w h = grind arith
put_at (x ∷ xs) (suc place) (suc i) w h = grind (arith, put_at xs place i w (omega arith))

pub same_number : (i place : ℕ) → int_eq (pos i) (pos place) ≡ nat_eq i place
same_number i place = grind (arith, ints)

module _ (ids : List TwoIds) (place : ℕ) (within : place < length ids) where
  -- what stands at each key after a change at one place
  put_small : (w : TwoIds) (x : Cell) (n : ℕ) → has_two (slice_set ids place w) x n ≡ cond (same_cell x (cell.Int (pos place))) (is_of_two w n) (has_two ids x n)
  put_small w (cell.Int (pos i)) n = grind (arith, same_number i place, put_at ids place i w within)
  put_small w (cell.Int (negsuc i)) n = refl
  put_small w (cell.Text t) n = refl

  -- what stands at the place
  small_there : (d : TwoIds) (x : Cell) (n : ℕ) → same_cell x (cell.Int (pos place)) ≡ true → has_two ids x n ≡ is_of_two (slice_index_or ids place d) n
  small_there d (cell.Int (pos i)) n e = let same : i ≡ place = grind (arith, same_number i place) in rw same (ap (λ o. is_among_two o n) (slice_get-get_or ids place d within))
  small_there d (cell.Int (negsuc i)) n e = absurd (cc)
  small_there d (cell.Text t) n e = absurd (cc)

  -- an id more
  pub small_added : (d more : TwoIds) (id : ℕ) → ((n : ℕ) → is_of_two more n ≡ (nat_eq n id || is_of_two (slice_index_or ids place d) n))
      → (x : Cell) (n : ℕ) → has_two (slice_set ids place more) x n ≡ ((same_cell x (cell.Int (pos place)) && nat_eq n id) || has_two ids x n)
  small_added d more id added x n = grind (arith, put_small more x n, added n, small_there d x n)

  -- an id less
  pub small_removed : (d less : TwoIds) (id : ℕ) → ((n : ℕ) → is_of_two less n ≡ (not (nat_eq n id) && is_of_two (slice_index_or ids place d) n))
      → (x : Cell) (n : ℕ) → has_two (slice_set ids place less) x n ≡ (not (same_cell x (cell.Int (pos place)) && nat_eq n id) && has_two ids x n)
  small_removed d less id fewer x n = grind (arith, put_small less x n, fewer n, small_there d x n)

-- a number without a place
pub no_place : (ids : SmallIds) (key : ℤ) (id : ℕ) → ((n : ℕ) → has_number ids.two key n ≡ false) → ((n : ℕ) → in_set_of ids.sets key n ≡ false)
    → (x : Cell) (n : ℕ) → has_small ids x n ≡ (not (same_cell x (cell.Int key) && nat_eq n id) && has_small ids x n)
no_place ids key id two set (cell.Text t) n = refl
no_place ids key id two set (cell.Int j) n = by_test (int_eq j key) refl where
  by_test : (b : Bool) → int_eq j key ≡ b → (has_number ids.two j n || in_set_of ids.sets j n) ≡ (not (int_eq j key && nat_eq n id) && (has_number ids.two j n || in_set_of ids.sets j n))
  by_test false e = rw e refl
  by_test true e =
      let same : j ≡ key = (signed_Decides j key).0 e in
      let none : (has_number ids.two j n || in_set_of ids.sets j n) ≡ false = rw same (grind (arith, two n, set n)) in
      rw none (by_bool (int_eq j key && nat_eq n id)) where
        by_bool : (b : Bool) → false ≡ (not b && false)
        by_bool true = refl
        by_bool false = refl
