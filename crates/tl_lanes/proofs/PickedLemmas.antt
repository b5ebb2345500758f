-- One value more among those whose bit is set.
use Rattle.std.proofs.Common.{◌≡◌, ℕ, zero, suc, ◌+◌, ◌<◌, List, [], ◌∷◌, ◌++◌, Bool, true, false, length, get_or, take, refl, ◌∙◌, ap, arith}
use Rattle.std.specs.Prelude.{ℤ, pos, negsuc, ◌+ℤ◌, fold, if◌then◌else◌}
use Rattle.std.proofs.lemmas.List.{take_more, length-take-le}
use Rattle.std.proofs.lemmas.List.Sums.{fold-append}
use Rattle.std.proofs.lemmas.Int.{ints}
use Rattle.std.proofs.Common.{◌*◌, ◌^◌, neg_ℤ, ◌≤ℤ◌, w64, of_z, to_z}
use Rattle.std.specs.Int.{w128}
use Rattle.std.proofs.Math.Facts.{to_z-of_z}
use mir.Val.{SFits}
use Rattle.std.specs.Prelude.{int_lt}
use Rattle.tl_lanes.specs.Masks.{bit_of, picked_from, picked, IsUpTo}

-- the value, where its bit is set
abbrev pub one_if : {X : Type 0} → Bool → X → List X
one_if set value = if set then value ∷ [] else []

pub before_more : {X : Type 0} → (set : Bool) (value : X) (values more : List X)
    → (if set then value ∷ (values ++ more) else (values ++ more)) ≡ (if set then value ∷ values else values) ++ more
before_more true value values more = refl
before_more false value values more = refl

pub picked_push : {X : Type 0} (mask : List ℕ) → (j : ℕ) (values : List X) (value : X)
    → picked_from mask j (values ++ value ∷ []) ≡ picked_from mask j values ++ one_if (bit_of mask (j + length values)) value
picked_push mask j [] value = ap (λ k. one_if (bit_of mask k) value) (let e : j ≡ j + 0 = omega arith in e)
picked_push mask j (x ∷ xs) value =
    ap (λ vs. if bit_of mask j then x ∷ vs else vs)
    (picked_push mask (j + 1) xs value
    ∙ ap (λ k. picked_from mask (j + 1) xs ++ one_if (bit_of mask k) value) (let e : (j + 1) + length xs ≡ j + suc (length xs) = omega arith in e))
    ∙ before_more (bit_of mask j) x (picked_from mask (j + 1) xs) (one_if (bit_of mask (j + suc (length xs))) value)

pub picked_more : {X : Type 0} (mask : List ℕ) (values : List X) (i : ℕ) (d : X) → i < length values
    → picked mask (take (i + 1) values) ≡ picked mask (take i values) ++ one_if (bit_of mask i) (get_or values i d)
picked_more mask values i d inside =
    ap (picked mask) (take_more values i d inside) ∙ picked_push mask 0 (take i values) (get_or values i d)
    ∙ ap (λ k. picked mask (take i values) ++ one_if (bit_of mask k) (get_or values i d))
    (let e : 0 + length (take i values) ≡ i = (let f = length-take-le i values (omega arith) in omega arith) in e)

pub sum_of_one : (sum : ℤ) (set : Bool) (value : ℤ) → fold ◌+ℤ◌ sum (one_if set value) ≡ sum +ℤ (if set then value else pos 0)
sum_of_one sum true value = refl
sum_of_one sum false value = omega (arith, ints)

pub sum_more : (mask : List ℕ) (values : List ℤ) (i : ℕ) (d : ℤ) → i < length values
    → fold ◌+ℤ◌ (pos 0) (picked mask (take (i + 1) values))
    ≡ fold ◌+ℤ◌ (pos 0) (picked mask (take i values)) +ℤ (if bit_of mask i then get_or values i d else pos 0)
sum_more mask values i d inside =
    ap (fold ◌+ℤ◌ (pos 0)) (picked_more mask values i d inside)
    ∙ fold-append ◌+ℤ◌ (pos 0) (picked mask (take i values)) (one_if (bit_of mask i) (get_or values i d))
    ∙ sum_of_one (fold ◌+ℤ◌ (pos 0) (picked mask (take i values))) (bit_of mask i) (get_or values i d)

-- a number between two bounds fits
pub fits_between : (z : ℤ) (n : ℕ) → neg_ℤ (pos n) ≤ℤ z → z ≤ℤ pos n → n < 2 ^ 127 → SFits w128 z
fits_between (pos m) n low high few = record { sfits = omega (arith, ints) }
fits_between (negsuc m) zero low high few = absurd (omega (arith, ints))
fits_between (negsuc m) (suc k) low high few = record { sfits = omega (arith, ints) }

pub sum_low : (sum value : ℤ) (j : ℕ) → SFits w64 value → neg_ℤ (pos (9223372036854775808 * j)) ≤ℤ sum → neg_ℤ (pos (9223372036854775808 * (j + 1))) ≤ℤ (sum +ℤ value)
sum_low sum value j fits low = let small = fits.sfits in omega (arith, ints)

pub sum_high : (sum value : ℤ) (j : ℕ) → SFits w64 value → sum ≤ℤ pos (9223372036854775808 * j) → (sum +ℤ value) ≤ℤ pos (9223372036854775808 * (j + 1))
sum_high sum value j fits high = let small = fits.sfits in omega (arith, ints)

-- a number of 64 bits added to a sum of fewer than 2^32 of them
pub wide_sum : (sum value : ℤ) (j : ℕ) → SFits w64 value → neg_ℤ (pos (9223372036854775808 * j)) ≤ℤ sum → sum ≤ℤ pos (9223372036854775808 * j) → j < 2 ^ 32
    → to_z w128 (of_z w128 (sum +ℤ to_z w128 (of_z w128 value))) ≡ sum +ℤ value
wide_sum sum value j fits low high few =
    let small = fits.sfits in
    let wide : SFits w128 value = record { sfits = omega (arith, ints) } in
    let both : SFits w128 (sum +ℤ value) = fits_between (sum +ℤ value) (9223372036854775808 * (j + 1)) (sum_low sum value j fits low) (sum_high sum value j fits high) (omega arith) in
    ap (λ v. to_z w128 (of_z w128 (sum +ℤ v))) (to_z-of_z wide) ∙ to_z-of_z both

-- a value comes before another: it is less, or greater
abbrev pub before : Bool → ℤ → ℤ → Bool
before least value best = if least then int_lt value best else int_lt best value

pub up_to_self : (least : Bool) (value : ℤ) → IsUpTo least value value
up_to_self true value = omega (arith, ints)
up_to_self false value = omega (arith, ints)

pub up_to_behind : (least : Bool) (value best other : ℤ) → before least value best ≡ true → IsUpTo least best other → IsUpTo least value other
up_to_behind true value best other first up = grind (arith, ints)
up_to_behind false value best other first up = grind (arith, ints)

pub up_to_ahead : (least : Bool) (value best : ℤ) → before least value best ≡ false → IsUpTo least best value
up_to_ahead true value best later = grind (arith, ints)
up_to_ahead false value best later = grind (arith, ints)
