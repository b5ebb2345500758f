-- The mask of a comparison of 64 lanes, by the values.
use Rattle.std.proofs.Common.{◌≡◌, ℕ, ◌+◌, ◌-◌, ◌*◌, ◌%◌, ◌^◌, ◌≤◌, ◌<◌, ◌==◌, ◌⊎◌, List, Bool, true, false, cond, length, get_or, take, drop, map, replicate, refl, sym, ◌∙◌, ap, arith, inl, inr, w32, w64, of_z, to_z}
use Rattle.std.specs.Prelude.{ℤ, pos}
use Rattle.std.specs.Ordering.{int_eq}
use Rattle.std.proofs.lemmas.List.{take_all, drop_all, length-map, ext_get_or, get_or-map, take-map, drop-map}
use Rattle.std.proofs.lemmas.Bool.{cases_Bool, eq-eqb, ne_eqb}
use Rattle.std.proofs.lemmas.Bool.Decides.{Decides-int_eq}
use Rattle.std.proofs.lemmas.Simd.{bitmask_splat, map-map, zip2_splat_left, zip2_splat}
use Rattle.std.proofs.Math.Facts.{to_z-of_z}
use Rattle.std.specs.Simd.Lanes.{mask_l, top, zip2}
use mir.Val.{SFits, bool_byte}
use Rattle.std.proofs.Common.{set}
use Rattle.std.proofs.Math.Pow.{pow_mono}
use Rattle.std.proofs.lemmas.Bool.{cases_eq}
use Rattle.std.proofs.lemmas.List.{length-drop, get_or-set_same, get_or-set_other}
use Rattle.std.proofs.lemmas.List.FromFn.{fill_by_all}
use Rattle.std.proofs.lemmas.Simd.{mask_l-lt}
use Rattle.std.proofs.lemmas.Simd.{bit_mask_l}
use Rattle.std.proofs.lemmas.List.{get_or-take, get_or-drop}
use Rattle.tl_lanes.specs.Masks.{words_for, word_of, mask_of, is_bit, AreBits, IsWordOf}

-- two tests that agree on the values
pub map_same : {X : Type 0} (d : X) (p q : X → Bool) (values : List X) → ((k : ℕ) → k < length values → p (get_or values k d) ≡ q (get_or values k d)) → map p values ≡ map q values
map_same d p q values same =
    ext_get_or false (map p values) (map q values) (length-map values p ∙ sym (length-map values q))
    (λ k below.
    let inside : k < length values = let e = length-map values p in omega arith in
    get_or-map p values k d false inside ∙ same k inside ∙ sym (get_or-map q values k d false inside))

pub signed_mask : (n : ℕ) (t : ℕ → ℕ → Bool) (p : ℤ → Bool) (values : List ℤ) (bound : ℕ) → length values ≡ n → n ≤ 64
    → ((k : ℕ) → k < length values → t (of_z w64 (get_or values k (pos 0))) bound ≡ p (get_or values k (pos 0)))
    → mask_l (map (top 63) (zip2 (λ x y. cond (t x y) (2 ^ 64 - 1) 0) (map (of_z w64) (take n values)) (replicate n bound))) % 2 ^ 64 ≡ mask_l (map p values)
signed_mask n t p values bound long short same =
    let raw = map (of_z w64) values in
    let raw_long : length raw ≡ n = length-map values (of_z w64) ∙ long in
    ap (λ vs. mask_l (map (top 63) (zip2 (λ x y. cond (t x y) (2 ^ 64 - 1) 0) (map (of_z w64) vs) (replicate n bound))) % 2 ^ 64) (take_all n values (omega arith))
    ∙ bitmask_splat w64 t raw n bound raw_long short
    ∙ ap mask_l (map-map (λ x. t x bound) (of_z w64) values ∙ map_same (pos 0) (λ v. t (of_z w64 v) bound) p values same)

pub signed_mask_left : (n : ℕ) (t : ℕ → ℕ → Bool) (p : ℤ → Bool) (values : List ℤ) (bound : ℕ) → length values ≡ n → n ≤ 64
    → ((k : ℕ) → k < length values → t bound (of_z w64 (get_or values k (pos 0))) ≡ p (get_or values k (pos 0)))
    → mask_l (map (top 63) (zip2 (λ x y. cond (t x y) (2 ^ 64 - 1) 0) (replicate n bound) (map (of_z w64) (take n values)))) % 2 ^ 64 ≡ mask_l (map p values)
signed_mask_left n t p values bound long short same =
    let raw = map (of_z w64) (take n values) in
    let raw_long : length raw ≡ n = length-map (take n values) (of_z w64) ∙ ap length (take_all n values (omega arith)) ∙ long in
    ap (λ zs. mask_l (map (top 63) zs) % 2 ^ 64)
    (zip2_splat_left (λ x y. cond (t x y) (2 ^ 64 - 1) 0) bound n raw raw_long
    ∙ sym (zip2_splat (λ x y. cond (t y x) (2 ^ 64 - 1) 0) raw n bound raw_long))
    ∙ signed_mask n (λ x y. t y x) p values bound long short same

pub unsigned_mask : (n : ℕ) (t : ℕ → ℕ → Bool) (values : List ℕ) (code : ℕ) → length values ≡ n → n ≤ 64
    → mask_l (map (top 31) (zip2 (λ x y. cond (t x y) (2 ^ 32 - 1) 0) (take n values) (replicate n code))) % 2 ^ 64 ≡ mask_l (map (λ x. t x code) values)
unsigned_mask n t values code long short =
    ap (λ vs. mask_l (map (top 31) (zip2 (λ x y. cond (t x y) (2 ^ 32 - 1) 0) vs (replicate n code))) % 2 ^ 64) (take_all n values (omega arith))
    ∙ bitmask_splat w32 t values n code long short

-- the bits of two numbers are equal where the numbers are
pub eq_raw : (x y : ℤ) → SFits w64 x → SFits w64 y → (of_z w64 x == of_z w64 y) ≡ int_eq x y
eq_raw x y fx fy = by_value (cases_Bool (int_eq x y)) where
  by_value : (int_eq x y ≡ true) ⊎ (int_eq x y ≡ false) → (of_z w64 x == of_z w64 y) ≡ int_eq x y
  by_value (inl same) = eq-eqb (of_z w64 x) (of_z w64 y) (ap (of_z w64) ((Decides-int_eq x y).0 same)) ∙ sym same
  by_value (inr other) =
      ne_eqb (of_z w64 x) (of_z w64 y)
      (λ e. let same = (Decides-int_eq x y).1 (sym (to_z-of_z fx) ∙ ap (to_z w64) e ∙ to_z-of_z fy) in absurd (cc)) ∙ sym other

-- an order of the numbers that the bits stand for
pub order_raw : (order : ℤ → ℤ → Bool) (x y : ℤ) → SFits w64 x → SFits w64 y → order (to_z w64 (of_z w64 x)) (to_z w64 (of_z w64 y)) ≡ order x y
order_raw order x y fx fy = ap (λ v. order v (to_z w64 (of_z w64 y))) (to_z-of_z fx) ∙ ap (order x) (to_z-of_z fy)

-- a bit as a number is at most 1
pub bit_small : (b : Bool) → bool_byte b ≤ 1
bit_small true = omega arith
bit_small false = omega arith

-- a word of fewer than 64 bits is not full
pub rest_small : {X : Type 0} (test : X → Bool) (values : List X) (at word : ℕ) → word ≡ mask_l (map test (drop at values)) → 0 < at → at ≤ length values → length values ≤ 64
    → word < 2 ^ 63
rest_small test values at word is some within short =
    let bits = map test (drop at values) in
    let long : length bits ≡ length values - at = length-map (drop at values) test ∙ length-drop at values in
    let less : length bits ≤ 63 = omega arith in
    let grows : 2 ^ length bits ≤ 2 ^ 63 = pow_mono less in
    let small = mask_l-lt bits in
    omega arith

-- word i of a mask, by the values
pub word_of_values : {X : Type 0} (test : X → Bool) (values : List X) (i n : ℕ) → n ≡ 64 → word_of (map test values) i ≡ mask_l (map test (take n (drop (64 * i) values)))
word_of_values test values i n is =
    sym (ap (λ k. mask_l (map test (take k (drop (64 * i) values)))) is
    ∙ ap mask_l (sym (take-map test 64 (drop (64 * i) values)) ∙ ap (take 64) (sym (drop-map test (64 * i) values))))

-- one word more
pub words_more : (f : ℕ → ℕ) (out : List ℕ) (i word : ℕ) → i < length out → ((k : ℕ) → k < i → get_or out k 0 ≡ f k) → word ≡ f i
    → (k : ℕ) → k < i + 1 → get_or (set out i word) k 0 ≡ f k
words_more f out i word inside so_far is k below = by_place (cases_eq k i) where
  by_place : (k ≡ i) ⊎ (k ≡ i → ⊥) → get_or (set out i word) k 0 ≡ f k
  by_place (inl same) = ap (λ j. get_or (set out i word) j 0) same ∙ get_or-set_same out i word 0 inside ∙ is ∙ ap f (sym same)
  by_place (inr other) = get_or-set_other out i k word 0 other ∙ so_far k (omega arith)

-- the last word, of the values that are left
pub last_word : {X : Type 0} (test : X → Bool) (values : List X) (i : ℕ) → length values ≤ 64 * i + 64 → word_of (map test values) i ≡ mask_l (map test (drop (64 * i) values))
last_word test values i short =
    word_of_values test values i 64 refl
    ∙ ap (λ vs. mask_l (map test vs)) (take_all 64 (drop (64 * i) values) (let e = length-drop (64 * i) values in omega arith))

-- all words of a mask
pub mask_is : (bits : List Bool) (out : List ℕ) (n : ℕ) → n ≡ length bits → length out ≡ words_for n → ((k : ℕ) → k < words_for n → get_or out k 0 ≡ word_of bits k) → out ≡ mask_of bits
mask_is bits out n is long words =
    fill_by_all (word_of bits) out (words_for (length bits)) 0 (long ∙ ap words_for is)
    (λ k below. words k (let e = ap words_for is in omega arith))

-- the bits of a word of these bits
pub bit_of_word : (bits : List Bool) (k : ℕ) → is_bit (mask_l bits) k ≡ get_or bits k false
bit_of_word bits k = ap (λ b. b == 1) (bit_mask_l bits k) ∙ as_bit (get_or bits k false) where
  as_bit : (b : Bool) → (cond b 1 0 == 1) ≡ b
  as_bit true = refl
  as_bit false = refl

pub word_bits : (bits : List Bool) (word : ℕ) → word ≡ mask_l bits → AreBits bits word
word_bits bits word is k below = ap (λ w. is_bit w k) is ∙ bit_of_word bits k

-- the bits of word i of a mask
pub bits_of_word : (bits : List Bool) (i word : ℕ) → word ≡ word_of bits i → IsWordOf bits i word
bits_of_word bits i word is k below =
    ap (λ w. is_bit w k) is
    ∙ bit_of_word (take 64 (drop (64 * i) bits)) k
    ∙ get_or-take 64 (drop (64 * i) bits) k false below
    ∙ get_or-drop (64 * i) bits k false

-- a word past the bits is 0
pub word_past : (bits : List Bool) (i : ℕ) → length bits ≤ 64 * i → word_of bits i ≡ 0
word_past bits i past = ap (λ bs. mask_l (take 64 bs)) (drop_all (64 * i) bits past)
