-- The bits of words.
use Rattle.std.proofs.Common.{◌≡◌, ℕ, zero, suc, ◌+◌, ◌-◌, ◌^◌, ◌<◌, ◌≤◌, ◌==◌, ◌⊎◌, inl, inr, false, ◌&&◌, ◌||◌, not, nat_lt, max, List, length, get_or, set, refl, ap, sym, subst, ◌∙◌, arith}
use Rattle.std.specs.Int.{bit_at, bit_not, w64}
use Rattle.std.specs.Prelude.{bit_and, bit_or}
use Rattle.std.proofs.lemmas.Bool.{cases_lt, cases_eq}
use Rattle.std.proofs.lemmas.List.{get_or-set_same, get_or-set_other}
use Rattle.std.proofs.lemmas.Bool.Decides.{nat_tests}
use Rattle.std.proofs.lemmas.Nat.Bits.{bit_at_or, bit_at_not, bit_at-lt, bit_at-zero, bit_at_ones, bit_at_ones_above}
use Rattle.std.proofs.lemmas.Simd.{get_or-zip2, length-zip2}
use lib.Lanes.{zip2}
use Rattle.tl_lanes.specs.Masks.{is_bit}
use Rattle.tl_lanes.specs.Words.{and_not}
use Rattle.tl_lanes.proofs.MaskBits.{bit_of_and}
use Rattle.tl_filter.specs.Words.{AreJoined, AreLeft}

pub bit_of_or : (a b k : ℕ) → is_bit (bit_or a b) k ≡ (is_bit a k || is_bit b k)
bit_of_or a b k =
    let e = bit_at_or a b k in
    let f = bit_at-lt a k in
    let g = bit_at-lt b k in
    ap (λ n. n == 1) e ∙ greatest (bit_at a k) (bit_at b k) f g where
      greatest : (m n : ℕ) → m < 2 → n < 2 → (max m n == 1) ≡ ((m == 1) || (n == 1))
      greatest zero zero f g = refl
      greatest zero (suc zero) f g = refl
      greatest zero (suc (suc n)) f g = absurd (omega arith)
      greatest (suc zero) zero f g = refl
      greatest (suc zero) (suc zero) f g = refl
      greatest (suc zero) (suc (suc n)) f g = absurd (omega arith)
      greatest (suc (suc m)) n f g = absurd (omega arith)

pub bit_of_not : (a k : ℕ) → a < 2 ^ 64 → k < 64 → is_bit (bit_not w64 a) k ≡ not (is_bit a k)
bit_of_not a k fits small =
    ap (λ n. n == 1) (bit_at_not w64 a k fits small) ∙ other (bit_at a k) (bit_at-lt a k) where
      other : (m : ℕ) → m < 2 → (1 - m == 1) ≡ not (m == 1)
      other zero f = refl
      other (suc zero) f = refl
      other (suc (suc m)) f = absurd (omega arith)

pub bit_of_zero : (k : ℕ) → is_bit 0 k ≡ false
bit_of_zero k = ap (λ n. n == 1) (bit_at-zero k)

-- the first bits of a word
pub bit_of_ones : (n k : ℕ) → is_bit (2 ^ n - 1) k ≡ nat_lt k n
bit_of_ones n k = by_place (cases_lt k n) where
  by_place : (k < n) ⊎ (n ≤ k) → is_bit (2 ^ n - 1) k ≡ nat_lt k n
  by_place (inl below) = ap (λ m. m == 1) (bit_at_ones n k below) ∙ grind (arith, nat_tests)
  by_place (inr above) = ap (λ m. m == 1) (bit_at_ones_above n k above) ∙ grind (arith, nat_tests)

-- ALL WORDS, ONE AFTER THE OTHER

-- one word more has what each is to have
pub each_more : (P : ℕ → ℕ → Type 0) (words : List ℕ) (i v : ℕ) → i < length words → ((j : ℕ) → j < i → P j (get_or words j 0)) → P i v
    → (j : ℕ) → j < i + 1 → P j (get_or (set words i v) j 0)
each_more P words i v there so_far here j below = by_place (cases_eq j i) where
  by_place : (j ≡ i) ⊎ (j ≡ i → ⊥) → P j (get_or (set words i v) j 0)
  by_place (inl same) =
      let e : get_or (set words i v) j 0 ≡ v = ap (λ n. get_or (set words i v) n 0) same ∙ get_or-set_same words i v 0 there in
      let Q : ℕ → Type 0 = λ n. P n (get_or (set words i v) j 0) in
      subst Q (sym same) (subst (P i) (sym e) here)
  by_place (inr other) =
      let e : get_or (set words i v) j 0 ≡ get_or words j 0 = get_or-set_other words i j v 0 other in
      subst (P j) (sym e) (so_far j (omega arith))

-- WORDS OF TWO LISTS

-- what a kernel leaves of words
pub left_is : (base done left : List ℕ) → length base ≡ length done → ((i : ℕ) → get_or done i 0 < 2 ^ 64) → left ≡ zip2 and_not base done → AreLeft base done left
left_is base done left same fit is = record {
  long = ap length is ∙ length-zip2 and_not base done same ∙ same;
  each = λ i below k small.
      ap (λ words. is_bit (get_or words i 0) k) is
      ∙ ap (λ w. is_bit w k) (get_or-zip2 and_not base done i 0 0 0 (omega arith) below)
      ∙ bit_of_and (get_or base i 0) (bit_not w64 (get_or done i 0)) k
      ∙ ap (λ b. is_bit (get_or base i 0) k && b) (bit_of_not (get_or done i 0) k (fit i) small);
}

-- what a kernel adds to words
pub joined_is : (one two new : List ℕ) → length one ≡ length two → new ≡ zip2 bit_or one two → AreJoined one two new
joined_is one two new same is = record {
  long = ap length is ∙ length-zip2 bit_or one two same;
  each = λ i below k small.
      ap (λ words. is_bit (get_or words i 0) k) is
      ∙ ap (λ w. is_bit w k) (get_or-zip2 bit_or one two i 0 0 0 below (omega arith))
      ∙ bit_of_or (get_or one i 0) (get_or two i 0) k;
}
