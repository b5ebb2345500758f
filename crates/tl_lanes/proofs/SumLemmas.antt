-- The sum of the values whose bit is set, by lanes of the lower and of the upper 32 bits.
use Rattle.std.proofs.Common.{◌≡◌, ℕ, zero, suc, ◌+◌, ◌-◌, ◌*◌, ◌/◌, ◌%◌, ◌^◌, ◌≤◌, ◌<◌, ◌==◌, List, [], ◌∷◌, Bool, true, false, cond, length, get_or, take, drop, map, replicate, refl, sym, ◌∙◌, ap, arith, of_z, to_z, w64, Fits, subst, neg_ℤ, ◌≤ℤ◌}
use Rattle.std.specs.Prelude.{ℤ, pos, negsuc, ◌+ℤ◌, fold, if◌then◌else◌, int_lt, bit_and}
use Rattle.std.specs.List.{range_with_len}
use Rattle.std.proofs.lemmas.Int.{ints}
use Rattle.std.proofs.lemmas.List.{length-map, get_or-map}
use Rattle.std.proofs.lemmas.List.FromFn.{get_or-map-range_with_len, length-map-range_with_len}
use Rattle.std.proofs.lemmas.Nat.{and_mask, shr-shr}
use Rattle.std.proofs.lemmas.Nat.Bits.{shr_and_one}
use Rattle.std.proofs.lemmas.Simd.{sum-zip2, length-zip2, zip2_splat, get_or-sel_l, get_or-replicate, length-replicate, adds_fit, get_or-chunk, Each1-from_get_or}
use Rattle.std.proofs.Math.Facts.{to_z-of_z, to_z_pos}
use lib.IntN.{nat_abs}
use lib.Dec.{T}
use lib.Signed.{non_neg}
use lib.Lanes.{sum_l, zip2, sel_l, top, Each1, Each2}
use mir.Val.{SFits}
use Rattle.tl_lanes.specs.Masks.{is_bit, bit_of, picked}
use Rattle.tl_lanes.proofs.PickedLemmas.{sum_more}

pub top_of : (b : Bool) → top 63 (cond b (2 ^ 64 - 1) 0) ≡ b
top_of true = refl
top_of false = refl

-- a value with 2^63 added, as a lane computes it
abbrev pub offset : ℤ → ℕ
offset v = (nat_abs (to_z w64 (bit_and (of_z w64 v) (2 ^ 63 - 1))) + cond (top 63 (cond (int_lt (to_z w64 (of_z w64 v)) (to_z w64 0)) (2 ^ 64 - 1) 0)) 0 (2 ^ 63)) % 2 ^ 64

pub low_bits : (raw : ℕ) → to_z w64 (bit_and raw (2 ^ 63 - 1)) ≡ pos (raw % 2 ^ 63)
low_bits raw = ap (to_z w64) (and_mask raw 63) ∙ to_z_pos w64 (omega arith)

pub offset_by : (v : ℤ) (b : Bool) → int_lt v (pos 0) ≡ b → SFits w64 v → (of_z w64 v % 2 ^ 63 + cond b 0 (2 ^ 63)) % 2 ^ 64 ≡ nat_abs (v +ℤ pos (2 ^ 63))
offset_by (pos m) true is fits = absurd (grind (arith, ints))
offset_by (pos m) false is fits = let small = fits.sfits in omega (arith, ints)
offset_by (negsuc m) true is fits = let small = fits.sfits in omega (arith, ints)
offset_by (negsuc m) false is fits = absurd (grind (arith, ints))

pub offset_raw : (v : ℤ) → SFits w64 v → (of_z w64 v % 2 ^ 63 + cond (int_lt v (pos 0)) 0 (2 ^ 63)) % 2 ^ 64 ≡ nat_abs (v +ℤ pos (2 ^ 63))
offset_raw v fits = offset_by v (int_lt v (pos 0)) refl fits

pub not_below : (v : ℤ) → SFits w64 v → pos (nat_abs (v +ℤ pos (2 ^ 63))) ≡ v +ℤ pos (2 ^ 63)
not_below (pos m) fits = let small = fits.sfits in omega (arith, ints)
not_below (negsuc m) fits = let small = fits.sfits in omega (arith, ints)

pub offset_is : (v : ℤ) → SFits w64 v → pos (offset v) ≡ v +ℤ pos (2 ^ 63)
offset_is v fits =
    ap (λ z. pos ((nat_abs z + cond (top 63 (cond (int_lt (to_z w64 (of_z w64 v)) (pos 0)) (2 ^ 64 - 1) 0)) 0 (2 ^ 63)) % 2 ^ 64)) (low_bits (of_z w64 v))
    ∙ ap (λ b. pos ((of_z w64 v % 2 ^ 63 + cond b 0 (2 ^ 63)) % 2 ^ 64)) (top_of (int_lt (to_z w64 (of_z w64 v)) (pos 0)) ∙ ap (λ z. int_lt z (pos 0)) (to_z-of_z fits))
    ∙ ap pos (offset_raw v fits) ∙ not_below v fits

-- all lanes of them
abbrev pub offsets : ℕ → List ℤ → List ℕ
offsets n vs = zip2 (λ a b. (a + b) % 2 ^ 64) (map (λ a. nat_abs (to_z w64 a)) (zip2 bit_and (map (of_z w64) vs) (replicate n (2 ^ 63 - 1))))
    (sel_l (map (top 63) (zip2 (λ a b. cond (int_lt (to_z w64 a) (to_z w64 b)) (2 ^ 64 - 1) 0) (map (of_z w64) vs) (replicate n 0))) (replicate n 0) (replicate n (2 ^ 63)))

pub offsets_are : (n : ℕ) (vs : List ℤ) → length vs ≡ n → offsets n vs ≡ map offset vs
offsets_are zero [] long = refl
offsets_are (suc n) [] long = absurd (omega arith)
offsets_are zero (v ∷ vs) long = absurd (omega arith)
offsets_are (suc n) (v ∷ vs) long = ap (λ xs. offset v ∷ xs) (offsets_are n vs (omega arith))

-- whether each bit of a word is set, as lanes compute it
abbrev pub bit_lanes : ℕ → ℕ → List Bool
bit_lanes n word = map (λ j. top 63 (cond ((bit_and (word / 2 ^ j) 1) == 1) (2 ^ 64 - 1) 0)) (range_with_len 0 n)

pub bit_lane : (n word k : ℕ) → k < n → get_or (bit_lanes n word) k false ≡ is_bit word k
bit_lane n word k below =
    get_or-map-range_with_len (λ j. top 63 (cond ((bit_and (word / 2 ^ j) 1) == 1) (2 ^ 64 - 1) 0)) 0 n k k false below (omega arith)
    ∙ top_of ((bit_and (word / 2 ^ k) 1) == 1) ∙ ap (λ b. b == 1) (shr_and_one word k)

pub chosen_offset : (set : Bool) (v : ℤ) → SFits w64 v → pos (cond set (offset v) (2 ^ 63)) ≡ (if set then v else pos 0) +ℤ pos (2 ^ 63)
chosen_offset true v fits = offset_is v fits
chosen_offset false v fits = refl

pub selected : (n word : ℕ) (values : List ℤ) → length values ≡ n → ((k : ℕ) → k < length values → SFits w64 (get_or values k (pos 0)))
    → (k : ℕ) → k < n → pos (get_or (sel_l (bit_lanes n word) (map offset values) (replicate n (2 ^ 63))) k 0) ≡ (if is_bit word k then get_or values k (pos 0) else pos 0) +ℤ pos (2 ^ 63)
selected n word values long fits k below =
    let bits_long : length (bit_lanes n word) ≡ n = length-map-range_with_len (λ j. top 63 (cond ((bit_and (word / 2 ^ j) 1) == 1) (2 ^ 64 - 1) 0)) 0 n in
    let lanes_long : length (map offset values) ≡ n = length-map values offset ∙ long in
    let halves_long : length (replicate n (2 ^ 63)) ≡ n = length-replicate n (2 ^ 63) in
    ap pos (get_or-sel_l (bit_lanes n word) (map offset values) (replicate n (2 ^ 63)) k 0 (omega arith) (omega arith) (omega arith)
    ∙ ap (λ b. cond b (get_or (map offset values) k 0) (get_or (replicate n (2 ^ 63)) k 0)) (bit_lane n word k below)
    ∙ ap (λ x. cond (is_bit word k) x (get_or (replicate n (2 ^ 63)) k 0)) (get_or-map offset values k (pos 0) 0 (omega arith))
    ∙ ap (λ x. cond (is_bit word k) (offset (get_or values k (pos 0))) x) (get_or-replicate n k (2 ^ 63) 0 below))
    ∙ chosen_offset (is_bit word k) (get_or values k (pos 0)) (fits k (omega arith))

-- the lower and the upper 32 bits of lanes
abbrev pub lower : List ℕ → List ℕ
lower xs = map (λ x. bit_and x (2 ^ 32 - 1)) xs

abbrev pub upper : List ℕ → List ℕ
upper xs = map (λ x. x / 2 ^ 32) xs

pub both_halves : (xs : List ℕ) → sum_l (lower xs) + 2 ^ 32 * sum_l (upper xs) ≡ sum_l xs
both_halves [] = refl
both_halves (x ∷ xs) = let more = both_halves xs in let low = and_mask x 32 in omega arith

pub lower-le : (xs : List ℕ) → sum_l (lower xs) ≤ (2 ^ 32 - 1) * length xs
lower-le [] = omega arith
lower-le (x ∷ xs) = let more = lower-le xs in let low = and_mask x 32 in omega arith

pub upper-le : (xs : List ℕ) → Each1 (Fits w64) xs → sum_l (upper xs) ≤ (2 ^ 32 - 1) * length xs
upper-le [] fits = omega arith
upper-le (x ∷ xs) fits = let more = upper-le xs fits.1 in let small = fits.0.fits in omega arith

abbrev pub picked_sum : List ℕ → List ℤ → ℕ → ℤ
picked_sum mask values at = fold ◌+ℤ◌ (pos 0) (picked mask (take at values))

-- lane k is the value at `at + k` or 0, with 2^63 added
abbrev pub AreOffset : List ℕ → List ℤ → ℕ → List ℕ → Type 0
AreOffset mask values at xs = (k : ℕ) → k < length xs → pos (get_or xs k 0) ≡ (if bit_of mask (at + k) then get_or values (at + k) (pos 0) else pos 0) +ℤ pos (2 ^ 63)

pub lanes_sum : (mask : List ℕ) (values : List ℤ) (at : ℕ) (xs : List ℕ) → at + length xs ≤ length values → AreOffset mask values at xs
    → picked_sum mask values at +ℤ pos (sum_l xs) ≡ picked_sum mask values (at + length xs) +ℤ pos (2 ^ 63 * length xs)
lanes_sum mask values at [] within are = ap (λ k. picked_sum mask values k +ℤ pos 0) (let e : at ≡ at + 0 = omega arith in e)
lanes_sum mask values at (x ∷ xs) within are =
    let next : AreOffset mask values (at + 1) xs = λ k below.
    let e : at + suc k ≡ (at + 1) + k = omega arith in
    are (suc k) (omega arith) ∙ ap (λ j. (if bit_of mask j then get_or values j (pos 0) else pos 0) +ℤ pos (2 ^ 63)) e in
    let more = lanes_sum mask values (at + 1) xs (omega arith) next in
    let e0 : at + 0 ≡ at = omega arith in
    let e1 : (at + 1) + length xs ≡ at + suc (length xs) = omega arith in
    let first : pos x ≡ (if bit_of mask at then get_or values at (pos 0) else pos 0) +ℤ pos (2 ^ 63) =
    are 0 (omega arith) ∙ ap (λ j. (if bit_of mask j then get_or values j (pos 0) else pos 0) +ℤ pos (2 ^ 63)) e0 in
    let one = sum_more mask values at (pos 0) (omega arith) in
    lanes_step (picked_sum mask values at) (if bit_of mask at then get_or values at (pos 0) else pos 0) (picked_sum mask values (at + 1)) (picked_sum mask values ((at + 1) + length xs)) x (sum_l xs) (length xs) first one more
    ∙ ap (λ k. picked_sum mask values k +ℤ pos (2 ^ 63 * suc (length xs))) e1
  where
    lanes_step : (s v s1 s2 : ℤ) (x sum n : ℕ) → pos x ≡ v +ℤ pos (2 ^ 63) → s1 ≡ s +ℤ v → s1 +ℤ pos sum ≡ s2 +ℤ pos (2 ^ 63 * n) → s +ℤ pos (x + sum) ≡ s2 +ℤ pos (2 ^ 63 * suc n)
    lanes_step s v s1 s2 x sum n first one more = omega (arith, ints)

-- the lanes have added up the values up to `at`
pub record SumsTo (mask : List ℕ) (values : List ℤ) (lows highs : List ℕ) (n at : ℕ) : Type 0 where
  pub long_lows : length lows ≡ n
  pub long_highs : length highs ≡ n
  pub sum : picked_sum mask values at +ℤ pos (2 ^ 63 * at) ≡ pos (sum_l lows + 2 ^ 32 * sum_l highs)
  pub few_lows : sum_l lows ≤ (2 ^ 32 - 1) * at
  pub few_highs : sum_l highs ≤ (2 ^ 32 - 1) * at

pub added : (sums more xs : List ℕ) (n : ℕ) → length sums ≡ n → length xs ≡ n → more ≡ xs → (length (zip2 (λ a b. a + b) sums more) ≡ n) × (sum_l (zip2 (λ a b. a + b) sums more) ≡ sum_l sums + sum_l xs)
added sums more xs n long others is = (
  ap length (ap (zip2 (λ a b. a + b) sums) is) ∙ length-zip2 (λ a b. a + b) sums xs (long ∙ sym others) ∙ long,
  ap sum_l (ap (zip2 (λ a b. a + b) sums) is) ∙ sum-zip2 sums xs (long ∙ sym others),
)

pub sums_more : (mask : List ℕ) (values : List ℤ) (lows highs lanes : List ℕ) (n at next : ℕ) → next ≡ at + n → next ≤ length values → length lanes ≡ n → Each1 (Fits w64) lanes
    → AreOffset mask values at lanes → SumsTo mask values lows highs n at
    → SumsTo mask values (zip2 (λ a b. a + b) lows (zip2 bit_and lanes (replicate n (2 ^ 32 - 1)))) (zip2 (λ a b. a + b) highs (zip2 (λ a b. a / 2 ^ b) lanes (replicate n 32))) n next
sums_more mask values lows highs lanes n at next is within long fits are so_far =
    let low = added lows (zip2 bit_and lanes (replicate n (2 ^ 32 - 1))) (lower lanes) n so_far.long_lows (length-map lanes (λ x. bit_and x (2 ^ 32 - 1)) ∙ long) (zip2_splat bit_and lanes n (2 ^ 32 - 1) long) in
    let high = added highs (zip2 (λ a b. a / 2 ^ b) lanes (replicate n 32)) (upper lanes) n so_far.long_highs (length-map lanes (λ x. x / 2 ^ 32) ∙ long) (zip2_splat (λ a b. a / 2 ^ b) lanes n 32 long) in
    let low_sum = low.1 in
    let high_sum = high.1 in
    let few_lows = so_far.few_lows in
    let few_highs = so_far.few_highs in
    let low_le = lower-le lanes in
    let high_le = upper-le lanes fits in
    let both = both_halves lanes in
    let e : at + length lanes ≡ next = omega arith in
    let more : picked_sum mask values at +ℤ pos (sum_l lanes) ≡ picked_sum mask values next +ℤ pos (2 ^ 63 * length lanes) =
    lanes_sum mask values at lanes (omega arith) are ∙ ap (λ k. picked_sum mask values k +ℤ pos (2 ^ 63 * length lanes)) e in
    let before = so_far.sum in record {
      long_lows = low.0;
      long_highs = high.0;
      sum = omega (arith, ints);
      few_lows = omega arith;
      few_highs = omega arith;
    }

-- a lane without its top bit may be cast
pub casts : (n : ℕ) (vs : List ℤ) → Each1 (λ a. T (non_neg (to_z w64 a)) × Fits w64 (nat_abs (to_z w64 a))) (zip2 bit_and (map (of_z w64) vs) (replicate n (2 ^ 63 - 1)))
casts zero [] = tt
casts (suc n) [] = tt
casts zero (v ∷ vs) = tt
casts (suc n) (v ∷ vs) =
    let raw = of_z w64 v in
    ((subst (λ z. T (non_neg z)) (sym (low_bits raw)) tt, subst (λ z. Fits w64 (nat_abs z)) (sym (low_bits raw)) (record { fits = omega arith })), casts n vs)

-- the lanes of one vector, of a part of the values and the mask's word that is shifted to its first bit
pub offset_there : (mask : List ℕ) (values part : List ℤ) (word : ℕ) (lanes : List ℕ) (i at n : ℕ) → at ≡ 8 * i → n ≡ 8 → at + n ≤ length values → length lanes ≡ n
    → word ≡ get_or mask (at / 64) 0 / 2 ^ (at % 64) → part ≡ take n (drop at values)
    → ((k : ℕ) → k < n → pos (get_or lanes k 0) ≡ (if is_bit word k then get_or part k (pos 0) else pos 0) +ℤ pos (2 ^ 63))
    → AreOffset mask values at lanes
offset_there mask values part word lanes i at n is eight within long word_is part_is each k below =
    let inside : k < n = omega arith in
    let bit : is_bit word k ≡ bit_of mask (at + k) =
    ap (λ w. is_bit w k) word_is ∙ ap (λ w. w % 2 == 1) (shr-shr (get_or mask (at / 64) 0) (at % 64) k)
    ∙ ap (λ j. is_bit (get_or mask (at / 64) 0) j) (let e : at % 64 + k ≡ (at + k) % 64 = omega arith in e)
    ∙ ap (λ j. is_bit (get_or mask j 0) ((at + k) % 64)) (let e : at / 64 ≡ (at + k) / 64 = omega arith in e) in
    let value : get_or part k (pos 0) ≡ get_or values (at + k) (pos 0) =
    ap (λ vs. get_or vs k (pos 0)) part_is ∙ get_or-chunk at n values k (pos 0) inside in
    each k inside ∙ ap (λ b. (if b then get_or part k (pos 0) else pos 0) +ℤ pos (2 ^ 63)) bit
    ∙ ap (λ v. (if bit_of mask (at + k) then v else pos 0) +ℤ pos (2 ^ 63)) value

-- a vector more fits
pub lows_fit : (lows lanes : List ℕ) (n at : ℕ) → at + n < 2 ^ 32 → length lanes ≡ n → sum_l lows ≤ (2 ^ 32 - 1) * at
    → Each2 (λ a b. Fits w64 (a + b)) lows (zip2 bit_and lanes (replicate n (2 ^ 32 - 1)))
lows_fit lows lanes n at small long few =
    let low_le = lower-le lanes in
    let is = zip2_splat bit_and lanes n (2 ^ 32 - 1) long in
    let same : sum_l (zip2 bit_and lanes (replicate n (2 ^ 32 - 1))) ≡ sum_l (lower lanes) = ap sum_l is in
    adds_fit w64 lows (zip2 bit_and lanes (replicate n (2 ^ 32 - 1))) (omega arith)

pub highs_fit : (highs lanes : List ℕ) (n at : ℕ) → at + n < 2 ^ 32 → length lanes ≡ n → Each1 (Fits w64) lanes → sum_l highs ≤ (2 ^ 32 - 1) * at
    → Each2 (λ a b. Fits w64 (a + b)) highs (zip2 (λ a b. a / 2 ^ b) lanes (replicate n 32))
highs_fit highs lanes n at small long fits few =
    let high_le = upper-le lanes fits in
    let is = zip2_splat (λ a b. a / 2 ^ b) lanes n 32 long in
    let same : sum_l (zip2 (λ a b. a / 2 ^ b) lanes (replicate n 32)) ≡ sum_l (upper lanes) = ap sum_l is in
    adds_fit w64 highs (zip2 (λ a b. a / 2 ^ b) lanes (replicate n 32)) (omega arith)

-- the sum of all lanes
pub total : (mask : List ℕ) (values : List ℤ) (result : ℤ) (low high lows highs at count : ℕ) → at ≡ count → low ≡ lows → high ≡ highs
    → picked_sum mask values at +ℤ pos (2 ^ 63 * at) ≡ pos (lows + 2 ^ 32 * highs) → pos (low + 2 ^ 32 * high) ≡ result +ℤ pos (2 ^ 63 * count) → result ≡ picked_sum mask values count
total mask values result low high lows highs at count all low_is high_is is joined =
    omega_sum (picked_sum mask values at) is ∙ ap (picked_sum mask values) all
  where
    omega_sum : (sum : ℤ) → sum +ℤ pos (2 ^ 63 * at) ≡ pos (lows + 2 ^ 32 * highs) → result ≡ sum
    omega_sum sum whole = omega (arith, ints)

-- a number with 2^63 added is below 2^64
pub offset_fits : (set : Bool) (v : ℤ) (x : ℕ) → SFits w64 v → pos x ≡ (if set then v else pos 0) +ℤ pos (2 ^ 63) → x < 2 ^ 64
offset_fits true v x fits is = let small = fits.sfits in omega (arith, ints)
offset_fits false v x fits is = omega (arith, ints)

pub lanes_fit : (lanes : List ℕ) (n : ℕ) → length lanes ≡ n → ((k : ℕ) → k < n → get_or lanes k 0 < 2 ^ 64) → Each1 (Fits w64) lanes
lanes_fit lanes n long small = Each1-from_get_or (Fits w64) lanes 0 (λ k below. record { fits = small k (omega arith) })

pub total_low : (result : ℤ) (low high count : ℕ) → pos (low + 2 ^ 32 * high) ≡ result +ℤ pos (2 ^ 63 * count) → neg_ℤ (pos (2 ^ 63 * count)) ≤ℤ result
total_low result low high count joined = omega (arith, ints)

pub total_high : (result : ℤ) (low high count : ℕ) → low ≤ (2 ^ 32 - 1) * count → high ≤ (2 ^ 32 - 1) * count → pos (low + 2 ^ 32 * high) ≡ result +ℤ pos (2 ^ 63 * count) → result ≤ℤ pos (2 ^ 63 * count)
total_high result low high count few_lows few_highs joined = omega (arith, ints)
