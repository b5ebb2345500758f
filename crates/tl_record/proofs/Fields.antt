-- The numbers of a record, its lists, and the fields that are made of them, are read exactly.
use Rattle.std.proofs.Common.{◌≡◌, ℕ, zero, suc, ◌+◌, ◌-◌, ◌/◌, ◌%◌, ◌^◌, ◌<◌, ◌≤◌, ℤ, pos, negsuc, ◌≤ℤ◌, Bool, true, false, nat_lt, List, [], ◌∷◌, ◌++◌, length, get_or, refl, sym, ap, ◌∙◌, subst, arith, mod-lt, Ok, if◌then◌else◌}
use Rattle.std.specs.List.{flat_map, AllByRecursion}
use Rattle.std.specs.Int.{w64, from_be_bytes, cast_unsigned}
use Rattle.std.proofs.lemmas.Nat.{be_bytes_2, be_bytes_4, be_bytes_8}
use Rattle.std.proofs.lemmas.Int.{ints}
use Rattle.std.proofs.lemmas.Bool.Decides.{nat_tests}
use Rattle.tl_types.specs.Facts.{AscendFrom, IsChange}
use Rattle.tl_types.specs.Plain as plain
use Rattle.tl_record.specs.Spelling.{short_number, number, signed_number, IsNumber, IsSigned}
use Rattle.tl_record.specs.Reading.{Reader, behind, several, between, weight, turned, distance, at_distance, turned_between, signed_between, IsBetween, max_2, max_4, any_2, any_4, ascending, ids_of, closes_at}
use Rattle.tl_record.proofs.Exact.{Reads, spelled}
use Rattle.tl_record.proofs.Parts.{maps, restated, behinds, none_reads, more_reads, IsNone, IsMore}
use Rattle.tl_record.proofs.Bounds.{number_reads, distance_reads, turned_bytes, div_small, weight_pos}
use Rattle.tl_record.proofs.Steps.{distances_ascend, signed_within}

-- BYTES OF NUMBERS

pub small_bytes : (n v : ℕ) → v < weight n → (i : ℕ) → get_or (spelled n v) i 0 < 256
small_bytes zero v h i = omega arith
small_bytes (suc n) v h zero = div_small v n h
small_bytes (suc n) v h (suc i) = small_bytes n (v % weight n) (mod-lt v (weight_pos n)) i

pub short_is : (v : ℕ) → v ≤ max_2 → short_number v ≡ spelled 2 v
short_is v h = be_bytes_2 (spelled 2 v) v refl (small_bytes 2 v (omega (arith, h))) (omega arith)

pub number_is : (v : ℕ) → v ≤ max_4 → number v ≡ spelled 4 v
number_is v h = be_bytes_4 (spelled 4 v) v refl (small_bytes 4 v (omega (arith, h))) (omega arith)

pub any_2_reads : Reads any_2 short_number (λ v. v < 2 ^ 16)
any_2_reads =
    restated any_2 (spelled 2) short_number (IsBetween 0 max_2) (λ v. v < 2 ^ 16)
    (number_reads 2 0 max_2 (omega arith) (omega arith))
    (λ v h. let b = h.1 in (omega (arith, b), short_is v b)) (λ v h. (omega arith, omega (arith, h)))

pub bounded_reads : (lo hi : ℕ) → lo ≤ hi → hi ≤ max_4
    → Reads (between 4 lo hi) number (IsBetween lo hi)
bounded_reads lo hi some small =
    restated (between 4 lo hi) (spelled 4) number (IsBetween lo hi) (IsBetween lo hi)
    (number_reads 4 lo hi some (omega (arith, small)))
    (λ v h. let b = h.1 in (h, number_is v (omega (arith, b, small)))) (λ v h. h)

pub any_4_reads : Reads any_4 number IsNumber
any_4_reads =
    restated any_4 number number (IsBetween 0 max_4) IsNumber
    (bounded_reads 0 max_4 (omega arith) (omega arith))
    (λ v h. let b = h.1 in (omega (arith, b), refl)) (λ v h. (omega arith, omega (arith, h)))

-- SIGNED NUMBERS

back_from : (d : ℕ) → d < 2 ^ 64 → distance (at_distance d) ≡ d
back_from d small = by_half (nat_lt d 9223372036854775808) refl where
  by_half : (t : Bool) → nat_lt d 9223372036854775808 ≡ t → distance (at_distance d) ≡ d
  by_half true t =
      let l : d < 9223372036854775808 = grind (arith, nat_tests) in
      rw t (let e : 9223372036854775807 - (9223372036854775807 - d) ≡ d = omega (arith, l) in e)
  by_half false t =
      let l : 9223372036854775808 ≤ d = grind (arith, nat_tests) in
      rw t (let e : d - 9223372036854775808 + 9223372036854775808 ≡ d = omega (arith, l) in e)

pub there_from : (i : ℤ) → IsSigned i → at_distance (distance i) ≡ i
there_from (pos n) h =
    let t : nat_lt (n + 9223372036854775808) 9223372036854775808 ≡ false = grind (arith, nat_tests) in
    rw t (ap pos (omega arith))
there_from (negsuc n) h =
    let l : n ≤ 9223372036854775807 = omega (arith, ints, h.0) in
    let t : nat_lt (9223372036854775807 - n) 9223372036854775808 ≡ true = grind (arith, nat_tests) in
    rw t (ap negsuc (omega (arith, l)))

small_turned : (v : ℕ) → v < 2 ^ 64 → (i : ℕ) → get_or (turned_bytes v) i 0 < 256
small_turned v h zero = by_half (nat_lt (v / weight 7) 128) refl where
  by_half : (t : Bool) → nat_lt (v / weight 7) 128 ≡ t → turned (v / weight 7) < 256
  by_half true t = let l : v / weight 7 < 128 = grind (arith, nat_tests) in rw t (omega (arith, l))
  by_half false t = let l = div_small v 7 h in rw t (omega (arith, l))
small_turned v h (suc i) = small_bytes 7 (v % weight 7) (mod-lt v (weight_pos 7)) i

turned_value : (d : ℕ) → d < 2 ^ 64 → (t : Bool) → nat_lt (d / weight 7) 128 ≡ t
    → (if t then d + 9223372036854775808 else d - 9223372036854775808) ≡ from_be_bytes w64 (turned_bytes d)
turned_value d h true t =
    let l : d / weight 7 < 128 = grind (arith, nat_tests) in
    rw t (omega (arith, l))
turned_value d h false t =
    let l : 128 ≤ d / weight 7 = grind (arith, nat_tests) in
    rw t (omega (arith, l, h))

signed_value : (i : ℤ) → IsSigned i → cast_unsigned w64 i ≡ from_be_bytes w64 (turned_bytes (distance i))
signed_value (pos n) h =
    let l : n ≤ 9223372036854775807 = omega (arith, ints, h.1) in
    let t : nat_lt ((n + 9223372036854775808) / weight 7) 128 ≡ false = grind (arith, nat_tests) in
    let v = turned_value (n + 9223372036854775808) (omega (arith, l)) false t in
    let e : n + 9223372036854775808 - 9223372036854775808 ≡ n = omega arith in
    sym e ∙ v
signed_value (negsuc n) h =
    let l : n ≤ 9223372036854775807 = omega (arith, ints, h.0) in
    let d : ℕ = 9223372036854775807 - n in
    let t : nat_lt (d / weight 7) 128 ≡ true = grind (arith, nat_tests) in
    let v = turned_value d (omega (arith, l)) true t in
    let e : cast_unsigned w64 (negsuc n) ≡ d + 9223372036854775808 = omega (arith, l) in
    e ∙ v

pub distance_small : (i : ℤ) → IsSigned i → distance i < 2 ^ 64
distance_small (pos n) h = omega (arith, ints, h.1)
distance_small (negsuc n) h = omega arith

pub signed_is : (i : ℤ) → IsSigned i → signed_number i ≡ turned_bytes (distance i)
signed_is i h =
    be_bytes_8 (turned_bytes (distance i)) (cast_unsigned w64 i) refl
    (small_turned (distance i) (distance_small i h)) (signed_value i h)

-- between two bounds
abbrev pub IsWithin : ℤ → ℤ → ℤ → Type 0
IsWithin lo hi i = (lo ≤ℤ i) × (i ≤ℤ hi)

pub signed_reads : (lo hi : ℤ) → lo ≤ℤ hi → IsSigned lo → IsSigned hi
    → Reads (signed_between lo hi) signed_number (IsWithin lo hi)
unfolding signed_between
signed_reads lo hi some low high =
    maps (turned_between (distance lo) (distance hi)) at_distance distance turned_bytes signed_number
    (IsBetween (distance lo) (distance hi)) (IsWithin lo hi)
    (distance_reads (distance lo) (distance hi) (distances_ascend lo hi some) (distance_small hi high))
    (λ d h.
    let w = signed_within lo hi d high.0 h in
    let s : IsSigned (at_distance d) = (z_trans low.0 w.0, z_trans w.1 high.1) in
    let l = distance_small hi high in
    let b = h.1 in
    (w, signed_is (at_distance d) s ∙ ap turned_bytes (back_from d (omega (arith, l, b)))))
    (λ i h.
    let s : IsSigned i = (z_trans low.0 h.0, z_trans h.1 high.1) in
    ((distances_ascend lo i h.0, distances_ascend i hi h.1), there_from i s)) where
      z_trans : {a b c : ℤ} → a ≤ℤ b → b ≤ℤ c → a ≤ℤ c
      z_trans p q = omega (arith, ints, p, q)

-- LISTS

-- so many items that fit
abbrev pub FitsList : {A : Type 0} → (A → Type 0) → ℕ → List A → Type 0
FitsList F zero [] = Unit {0}
FitsList F zero (x ∷ xs) = ⊥
FitsList F (suc n) [] = ⊥
FitsList F (suc n) (x ∷ xs) = F x × FitsList F n xs

module _ {A : Type 0} (item : Reader A) (s : A → List ℕ) (F : A → Type 0) (one_ : Reads item s F)
    (some : (x : A) × F x) where
  some_list : (n : ℕ) → (xs : List A) × FitsList F n xs
  some_list zero = ([], tt)
  some_list (suc n) = let r = some_list n in (some.0 ∷ r.0, (some.1, r.1))

  none_to : (xs : List A) → IsNone xs → FitsList F zero xs × (flat_map s xs ≡ flat_map s xs)
  none_to [] f = (tt, refl)
  none_to (x ∷ xs) f = absurd f

  none_from : (xs : List A) → FitsList F zero xs → IsNone xs
  none_from [] f = tt
  none_from (x ∷ xs) f = absurd f

  more_to : (n : ℕ) (xs : List A) → IsMore F (λ x. FitsList F n) xs
      → FitsList F (suc n) xs × (flat_map s xs ≡ flat_map s xs)
  more_to n [] f = absurd f
  more_to n (x ∷ xs) f = (f, refl)

  more_from : (n : ℕ) (xs : List A) → FitsList F (suc n) xs → IsMore F (λ x. FitsList F n) xs
  more_from n [] f = absurd f
  more_from n (x ∷ xs) f = f

  fits_read : (n : ℕ) → Reads (several item n) (flat_map s) (FitsList F n)
  unfolding several
  fits_read zero =
      restated (several item zero) (flat_map s) (flat_map s) IsNone (FitsList F zero) (none_reads s)
      none_to none_from
  fits_read (suc n) =
      restated (several item (suc n)) (flat_map s) (flat_map s) (IsMore F (λ x. FitsList F n))
      (FitsList F (suc n))
      (more_reads some.0 item (λ x. several item n) s F (λ x. FitsList F n) one_ (λ x f. fits_read n)
      (λ x f. some_list n)) (more_to n) (more_from n)

  list_to : (n : ℕ) (xs : List A) → FitsList F n xs → AllByRecursion F xs × (length xs ≡ n)
  list_to zero [] f = (tt, refl)
  list_to zero (x ∷ xs) f = absurd f
  list_to (suc n) [] f = absurd f
  list_to (suc n) (x ∷ xs) f =
      let r = list_to n xs f.1 in
      let l = r.1 in
      ((f.0, r.0), omega (arith, l))

  list_from : (n : ℕ) (xs : List A) → AllByRecursion F xs → length xs ≡ n → FitsList F n xs
  list_from zero [] f e = tt
  list_from zero (x ∷ xs) f e = absurd (omega (arith, e))
  list_from (suc n) [] f e = absurd (omega (arith, e))
  list_from (suc n) (x ∷ xs) f e = (f.0, list_from n xs f.1 (omega (arith, e)))

  -- behind their number, which is one that fits
  pub list_reads : (first : Reader ℕ) (t : ℕ → List ℕ) (N : ℕ → Type 0) → Reads first t N
      → Reads (behind first (several item)) (λ xs. t (length xs) ++ flat_map s xs)
      (λ xs. AllByRecursion F xs × N (length xs))
  list_reads first t N counts =
      behinds first (several item) t (flat_map s) N (λ xs. AllByRecursion F xs × N (length xs)) length
      counts (λ xs f. f.1)
      (λ n h.
      restated (several item n) (flat_map s) (flat_map s) (FitsList F n)
      (λ xs. (AllByRecursion F xs × N (length xs)) × (length xs ≡ n)) (fits_read n)
      (λ xs f. let a = list_to n xs f in (((a.0, subst N (sym a.1) h), a.1), refl))
      (λ xs f. list_from n xs f.0.0 f.1))
      (λ n h.
      let r = some_list n in
      let a = list_to n r.0 r.1 in
      (r.0, ((a.0, subst N (sym a.1) h), a.1)))

-- CLOSED IDS

-- so many ids from a lowest one on, each with room for those behind it
abbrev pub FitsIds : ℕ → ℕ → List ℕ → Type 0
FitsIds zero low ids = IsNone ids
FitsIds (suc n) low [] = ⊥
FitsIds (suc n) low (id ∷ ids) = IsBetween low (max_4 - n) id × FitsIds n (id + 1) ids

some_ids : (n low : ℕ) → low + n ≤ 2 ^ 32 → (ids : List ℕ) × FitsIds n low ids
some_ids zero low h = ([], tt)
some_ids (suc n) low h =
    let r = some_ids n (low + 1) (omega (arith, h)) in
    (low ∷ r.0, ((omega arith, omega (arith, h)), r.1))

ids_read : (n low : ℕ) → low + n ≤ 2 ^ 32 → Reads (ascending n low) (flat_map number) (FitsIds n low)
unfolding ascending
ids_read zero low h = none_reads number
ids_read (suc n) low h =
    restated (ascending (suc n) low) (flat_map number) (flat_map number)
    (IsMore (IsBetween low (max_4 - n)) (λ id. FitsIds n (id + 1))) (FitsIds (suc n) low)
    (more_reads 0 (between 4 low (max_4 - n)) (λ id. ascending n (id + 1)) number
    (IsBetween low (max_4 - n)) (λ id. FitsIds n (id + 1))
    (bounded_reads low (max_4 - n) (omega (arith, h)) (omega arith))
    (λ id b. let u = b.1 in ids_read n (id + 1) (omega (arith, h, u)))
    (λ id b. let u = b.1 in some_ids n (id + 1) (omega (arith, h, u)))) to from where
      to : (ids : List ℕ) → IsMore (IsBetween low (max_4 - n)) (λ id. FitsIds n (id + 1)) ids
          → FitsIds (suc n) low ids × (flat_map number ids ≡ flat_map number ids)
      to [] f = absurd f
      to (id ∷ ids) f = (f, refl)

      from : (ids : List ℕ) → FitsIds (suc n) low ids
          → IsMore (IsBetween low (max_4 - n)) (λ id. FitsIds n (id + 1)) ids
      from [] f = absurd f
      from (id ∷ ids) f = f

-- so many ids that ascend
abbrev pub AreIds : ℕ → ℕ → List ℕ → Type 0
AreIds n low ids = AscendFrom low ids × AllByRecursion IsNumber ids × (length ids ≡ n)

ids_to : (n low : ℕ) (ids : List ℕ) → FitsIds n low ids → AreIds n low ids
ids_to zero low [] f = (tt, tt, refl)
ids_to zero low (id ∷ ids) f = absurd f
ids_to (suc n) low [] f = absurd f
ids_to (suc n) low (id ∷ ids) f =
    let r = ids_to n (id + 1) ids f.1 in
    let a = f.0.0 in
    let u = f.0.1 in
    let l = r.2 in
    ((a, r.0), (omega (arith, u), r.1), omega (arith, l))

room : (low : ℕ) (ids : List ℕ) → low ≤ 2 ^ 32 → AscendFrom low ids → AllByRecursion IsNumber ids
    → low + length ids ≤ 2 ^ 32
room low [] h a f = omega (arith, h)
room low (id ∷ ids) h a f =
    let u = f.0 in
    let r = room (id + 1) ids (omega (arith, u)) a.1 f.1 in
    let b = a.0 in
    omega (arith, r, b)

ids_from : (n low : ℕ) (ids : List ℕ) → AreIds n low ids → FitsIds n low ids
ids_from zero low [] f = tt
ids_from zero low (id ∷ ids) f = absurd (omega (arith, f.2))
ids_from (suc n) low [] f = absurd (omega (arith, f.2))
ids_from (suc n) low (id ∷ ids) f =
    let u = f.1.0 in
    let l = f.2 in
    let r = room (id + 1) ids (omega (arith, u)) f.0.1 f.1.1 in
    ((f.0.0, omega (arith, r, l)), ids_from n (id + 1) ids (f.0.1, f.1.1, omega (arith, l)))

-- the closed ids of a change
abbrev pub AreCloses : List ℕ → Type 0
AreCloses ids = AscendFrom 0 ids × AllByRecursion IsNumber ids × IsNumber (length ids)

pub closes_read : Reads closes_at (λ ids. number (length ids) ++ flat_map number ids) AreCloses
unfolding closes_at
closes_read =
    behinds any_4 ids_of number (flat_map number) IsNumber AreCloses length any_4_reads (λ ids h. h.2)
    (λ n h.
    restated (ids_of n) (flat_map number) (flat_map number) (FitsIds n 0)
    (λ ids. AreCloses ids × (length ids ≡ n)) (ids_read n 0 (omega (arith, h)))
    (λ ids f.
    let a = ids_to n 0 ids f in
    let l = a.2 in
    (((a.0, a.1, omega (arith, h, l)), l), refl))
    (λ ids f. ids_from n 0 ids (f.0.0, f.0.1, f.1)))
    (λ n h.
    let r = some_ids n 0 (omega (arith, h)) in
    let a = ids_to n 0 r.0 r.1 in
    let l = a.2 in
    (r.0, ((a.0, a.1, omega (arith, h, l)), l)))

pub changed : (bytes rest ids : List ℕ) (table : ℕ) (rows : List plain.Opened)
    → closes_at bytes ≡ Ok (ids, rest) → length rows < 2 ^ 32
    → IsChange (record { table = table; closes = ids; opens = rows })
changed bytes rest ids table rows e few =
    let t = (closes_read.takes bytes rest ids e).0 in
    record { ascending = t.0; few_closes = t.2; few_opens = few }
