-- The kept rows of a set with one row more.
use Rattle.std.proofs.Common.{◌≡◌, ℕ, zero, suc, ◌≤◌, Bool, true, false, ◌&&◌, cond, List, [], ◌∷◌, ◌∙◌, length, map, set, Some, refl, ap, arith, slice_get}
use Rattle.tl_types.specs.Plain as plain
use Rattle.tl_bits.specs.Sets.{is_member}
use Rattle.tl_running.specs.Standing.{Inserts}
use Rattle.tl_agg.specs.Kept.{both, picked}

-- a row that comes into the set
pub row_in : (members keep : List Bool) (rows : List plain.Row) (i : ℕ) (row : plain.Row) → length members ≡ length rows → slice_get rows i ≡ Some row
    → is_member members i ≡ false → is_member keep i ≡ true → Inserts row (picked (both members keep) rows) (picked (both (set members i true) keep) rows)
row_in members keep [] i row long is out kept = absurd (cc)
row_in [] keep (r ∷ rows) i row long is out kept = absurd (omega arith)
row_in (s ∷ members) [] (r ∷ rows) i row long is out kept = absurd (cc)
row_in (s ∷ members) (k ∷ keep) (r ∷ rows) zero row long is out kept =
    let e : r ≡ row = cc in
    rw (out, kept) (record { front = []; back = picked (both members keep) rows; without = refl; with = ap (λ x. x ∷ picked (both members keep) rows) e })
row_in (s ∷ members) (k ∷ keep) (r ∷ rows) (suc i) row long is out kept =
    behind (s && k) (row_in members keep rows i row (omega arith) is out kept) where
      behind : (b : Bool) → Inserts row (picked (both members keep) rows) (picked (both (set members i true) keep) rows)
          → Inserts row (cond b (r ∷ picked (both members keep) rows) (picked (both members keep) rows)) (cond b (r ∷ picked (both (set members i true) keep) rows) (picked (both (set members i true) keep) rows))
      behind true h = record { front = r ∷ h.front; back = h.back; without = ap (λ xs. r ∷ xs) h.without; with = ap (λ xs. r ∷ xs) h.with }
      behind false h = h

-- a row that goes out of the set
pub row_out : (members keep : List Bool) (rows : List plain.Row) (i : ℕ) (row : plain.Row) → length members ≡ length rows → slice_get rows i ≡ Some row
    → is_member members i ≡ true → is_member keep i ≡ true → Inserts row (picked (both (set members i false) keep) rows) (picked (both members keep) rows)
row_out members keep [] i row long is there kept = absurd (cc)
row_out [] keep (r ∷ rows) i row long is there kept = absurd (omega arith)
row_out (s ∷ members) [] (r ∷ rows) i row long is there kept = absurd (cc)
row_out (s ∷ members) (k ∷ keep) (r ∷ rows) zero row long is there kept =
    let e : r ≡ row = cc in
    rw (there, kept) (record { front = []; back = picked (both members keep) rows; without = refl; with = ap (λ x. x ∷ picked (both members keep) rows) e })
row_out (s ∷ members) (k ∷ keep) (r ∷ rows) (suc i) row long is there kept =
    behind (s && k) (row_out members keep rows i row (omega arith) is there kept) where
      behind : (b : Bool) → Inserts row (picked (both (set members i false) keep) rows) (picked (both members keep) rows)
          → Inserts row (cond b (r ∷ picked (both (set members i false) keep) rows) (picked (both (set members i false) keep) rows)) (cond b (r ∷ picked (both members keep) rows) (picked (both members keep) rows))
      behind true h = record { front = r ∷ h.front; back = h.back; without = ap (λ xs. r ∷ xs) h.without; with = ap (λ xs. r ∷ xs) h.with }
      behind false h = h

-- a row that is not kept
pub row_left : (members keep : List Bool) (b : Bool) (i : ℕ) → is_member keep i ≡ false → both (set members i b) keep ≡ both members keep
row_left [] keep b i left = refl
row_left (s ∷ members) [] b zero left = refl
row_left (s ∷ members) [] b (suc i) left = refl
row_left (s ∷ members) (k ∷ keep) b zero left = rw left (ap (λ x. x ∷ both members keep) (neither b s)) where
  neither : (x y : Bool) → (x && false) ≡ (y && false)
  neither true true = refl
  neither true false = refl
  neither false true = refl
  neither false false = refl
row_left (s ∷ members) (k ∷ keep) b (suc i) left = ap (λ xs. (s && k) ∷ xs) (row_left members keep b i left)

pub picked_few : (members keep : List Bool) (rows : List plain.Row) → length (picked (both members keep) rows) ≤ length rows
picked_few [] keep rows = omega arith
picked_few (s ∷ members) [] rows = omega arith
picked_few (s ∷ members) (k ∷ keep) [] = omega arith
picked_few (s ∷ members) (k ∷ keep) (r ∷ rows) = by_test (s && k) (picked_few members keep rows) where
  by_test : (b : Bool) → length (picked (both members keep) rows) ≤ length rows → length (cond b (r ∷ picked (both members keep) rows) (picked (both members keep) rows)) ≤ suc (length rows)
  by_test true h = omega arith
  by_test false h = omega arith

-- the members of a set that are kept, of those that are kept
pub both_again : (members keep : List Bool) → both (both members keep) keep ≡ both members keep
both_again [] keep = refl
both_again (s ∷ members) [] = refl
both_again (s ∷ members) (k ∷ keep) = by_tests s k (both_again members keep) where
  by_tests : (s k : Bool) → both (both members keep) keep ≡ both members keep → ((s && k) && k) ∷ both (both members keep) keep ≡ (s && k) ∷ both members keep
  by_tests true true h = ap (λ bs. true ∷ bs) h
  by_tests true false h = ap (λ bs. false ∷ bs) h
  by_tests false true h = ap (λ bs. false ∷ bs) h
  by_tests false false h = ap (λ bs. false ∷ bs) h

pub both_length : (members keep : List Bool) → length keep ≡ length members → length (both members keep) ≡ length members
both_length [] keep e = refl
both_length (s ∷ members) [] e = absurd (omega arith)
both_length (s ∷ members) (k ∷ keep) e = ap suc (both_length members keep (omega arith))

-- the members of a set that are kept, of those that are kept and pass a test
pub both_less : (members keep test : List Bool) → both (both members keep) (both keep test) ≡ both members (both keep test)
both_less [] keep test = refl
both_less (s ∷ members) [] test = refl
both_less (s ∷ members) (k ∷ keep) [] = refl
both_less (s ∷ members) (k ∷ keep) (t ∷ test) = ap (λ b. b ∷ both (both members keep) (both keep test)) (by_tests s k t) ∙ ap (λ bs. (s && (k && t)) ∷ bs) (both_less members keep test) where
  by_tests : (s k t : Bool) → ((s && k) && (k && t)) ≡ (s && (k && t))
  by_tests true true t = refl
  by_tests true false t = refl
  by_tests false k t = refl

pub both_out : (keep test : List Bool) (row : ℕ) → is_member keep row ≡ false → is_member (both keep test) row ≡ false
both_out [] test row out = refl
both_out (k ∷ keep) [] row out = refl
both_out (k ∷ keep) (t ∷ test) zero out = rw out refl
both_out (k ∷ keep) (t ∷ test) (suc row) out = both_out keep test row out

-- whether a row is kept and passes a test
pub both_tested : (keep : List Bool) (test : plain.Row → Bool) (rows : List plain.Row) (i : ℕ) (r : plain.Row) → length keep ≡ length rows → slice_get rows i ≡ Some r → is_member keep i ≡ true → is_member (both keep (map test rows)) i ≡ test r
both_tested keep test [] i r long is kept = absurd (cc)
both_tested [] test (x ∷ rows) i r long is kept = absurd (omega arith)
both_tested (k ∷ keep) test (x ∷ rows) zero r long is kept = let e : x ≡ r = cc in rw kept (ap test e)
both_tested (k ∷ keep) test (x ∷ rows) (suc i) r long is kept = both_tested keep test rows i r (omega arith) is kept
