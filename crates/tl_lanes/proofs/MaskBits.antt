-- The bits of a mask, one by one.
use Rattle.std.proofs.Common.{◌≡◌, ◌≢◌, ℕ, zero, suc, min, ◌&&◌, ◌*◌, ◌/◌, ◌%◌, ◌^◌, ◌≤◌, ◌<◌, ◌==◌, ◌⊎◌, List, Bool, true, false, length, get_or, set, replicate, refl, sym, ◌∙◌, ap, arith, inl, inr}
use Rattle.std.specs.Int.{bit_at, bit_not, w64}
use Rattle.std.specs.Prelude.{bit_and, bit_or}
use Rattle.std.proofs.lemmas.Bool.{cases_eq, cases_lt}
use Rattle.std.proofs.lemmas.List.{get_or-set_same, get_or-set_other, get_or_past, get_or-replicate, length-replicate}
use Rattle.std.proofs.lemmas.List.FromFn.{get_or-map-range_with_len, length-map-range_with_len, fill_by_all}
use Rattle.std.proofs.lemmas.Nat.Bits.{bit_at_set_same, bit_at_set_other, bit_at_clear_same, bit_at_clear_other, bit_at-zero, bit_at_and, bit_at-lt}
use Rattle.tl_lanes.specs.Masks.{is_bit, bit_of, bits_of}

-- no bit from `n` on is set
abbrev pub NoneFrom : ℕ → List ℕ → Type 0
NoneFrom n words = (j : ℕ) → n ≤ j → bit_of words j ≡ false

pub length-bits_of : (n : ℕ) (words : List ℕ) → length (bits_of n words) ≡ n
length-bits_of n words = length-map-range_with_len (bit_of words) 0 n

pub get_or_within_bits : (n : ℕ) (words : List ℕ) (j : ℕ) → j < n → get_or (bits_of n words) j false ≡ bit_of words j
get_or_within_bits n words j below = get_or-map-range_with_len (bit_of words) 0 n j j false below (omega arith)

pub get_or-bits_of : (n : ℕ) (words : List ℕ) → NoneFrom n words → (j : ℕ) → get_or (bits_of n words) j false ≡ bit_of words j
get_or-bits_of n words none j = by_place (cases_lt j n) where
  by_place : (j < n) ⊎ (n ≤ j) → get_or (bits_of n words) j false ≡ bit_of words j
  by_place (inl below) = get_or-map-range_with_len (bit_of words) 0 n j j false below (omega arith)
  by_place (inr past) = get_or_past (bits_of n words) j false (let e = length-bits_of n words in omega arith) ∙ sym (none j past)

-- a list with the same bits
pub bits_of_is : (n : ℕ) (words : List ℕ) (bits : List Bool) → length bits ≡ n → ((j : ℕ) → j < n → bit_of words j ≡ get_or bits j false) → bits_of n words ≡ bits
bits_of_is n words bits long same = sym (fill_by_all (bit_of words) bits n false long (λ k below. sym (same k below)))

-- one word changed
pub bit_of_changed : (words : List ℕ) (i word j : ℕ) → i < length words → j / 64 ≡ i → bit_of (set words i word) j ≡ is_bit word (j % 64)
bit_of_changed words i word j there same =
    ap (λ w. is_bit w (j % 64)) (ap (λ k. get_or (set words i word) k 0) same ∙ get_or-set_same words i word 0 there)

pub bit_of_kept : (words : List ℕ) (i word j : ℕ) → j / 64 ≢ i → bit_of (set words i word) j ≡ bit_of words j
bit_of_kept words i word j other = ap (λ w. is_bit w (j % 64)) (get_or-set_other words i (j / 64) word 0 other)

-- one bit set
abbrev pub bit_set : List ℕ → ℕ → List ℕ
bit_set words row = set words (row / 64) (bit_or (get_or words (row / 64) 0) (1 * 2 ^ (row % 64) % 2 ^ 64))

pub bit_of_set : (words : List ℕ) (row : ℕ) → row / 64 < length words → bit_of (bit_set words row) row ≡ true
bit_of_set words row there =
    let word = get_or words (row / 64) 0 in
    bit_of_changed words (row / 64) (bit_or word (1 * 2 ^ (row % 64) % 2 ^ 64)) row there refl
    ∙ ap (λ b. b == 1) (bit_at_set_same w64 word (row % 64) (omega arith))

pub bit_of_set_other : (words : List ℕ) (row j : ℕ) → row / 64 < length words → j ≢ row → bit_of (bit_set words row) j ≡ bit_of words j
bit_of_set_other words row j there other = by_word (cases_eq (j / 64) (row / 64)) where
  word : ℕ
  word = get_or words (row / 64) 0

  by_word : (j / 64 ≡ row / 64) ⊎ (j / 64 ≡ row / 64 → ⊥) → bit_of (bit_set words row) j ≡ bit_of words j
  by_word (inl same) =
      let apart : j % 64 ≢ row % 64 = λ e. other (omega arith) in
      bit_of_changed words (row / 64) (bit_or (get_or words (row / 64) 0) (1 * 2 ^ (row % 64) % 2 ^ 64)) j there same
      ∙ ap (λ b. b == 1) (bit_at_set_other w64 (get_or words (row / 64) 0) (row % 64) (omega arith) (j % 64) apart)
      ∙ ap (λ k. is_bit (get_or words k 0) (j % 64)) (sym same)
  by_word (inr apart) = bit_of_kept words (row / 64) (bit_or (get_or words (row / 64) 0) (1 * 2 ^ (row % 64) % 2 ^ 64)) j apart

-- one bit cleared
abbrev pub bit_cleared : List ℕ → ℕ → List ℕ
bit_cleared words row = set words (row / 64) (bit_and (get_or words (row / 64) 0) (bit_not w64 (1 * 2 ^ (row % 64) % 2 ^ 64)))

pub bit_of_cleared : (words : List ℕ) (row : ℕ) → row / 64 < length words → bit_of (bit_cleared words row) row ≡ false
bit_of_cleared words row there =
    let word = get_or words (row / 64) 0 in
    bit_of_changed words (row / 64) (bit_and word (bit_not w64 (1 * 2 ^ (row % 64) % 2 ^ 64))) row there refl
    ∙ ap (λ b. b == 1) (bit_at_clear_same w64 word (row % 64) (omega arith))

pub bit_of_cleared_other : (words : List ℕ) (row j : ℕ) → row / 64 < length words → j ≢ row → bit_of (bit_cleared words row) j ≡ bit_of words j
bit_of_cleared_other words row j there other = by_word (cases_eq (j / 64) (row / 64)) where
  by_word : (j / 64 ≡ row / 64) ⊎ (j / 64 ≡ row / 64 → ⊥) → bit_of (bit_cleared words row) j ≡ bit_of words j
  by_word (inl same) =
      let apart : j % 64 ≢ row % 64 = λ e. other (omega arith) in
      bit_of_changed words (row / 64) (bit_and (get_or words (row / 64) 0) (bit_not w64 (1 * 2 ^ (row % 64) % 2 ^ 64))) j there same
      ∙ ap (λ b. b == 1) (bit_at_clear_other w64 (get_or words (row / 64) 0) (row % 64) (omega arith) (j % 64) (omega arith) apart)
      ∙ ap (λ k. is_bit (get_or words k 0) (j % 64)) (sym same)
  by_word (inr apart) = bit_of_kept words (row / 64) (bit_and (get_or words (row / 64) 0) (bit_not w64 (1 * 2 ^ (row % 64) % 2 ^ 64))) j apart

-- words of zeros
abbrev pub zeros : ℕ → List ℕ
zeros n = replicate n zero

-- no bit of zeros is set
pub bit_of_zeros : (n j : ℕ) → bit_of (zeros n) j ≡ false
bit_of_zeros n j = by_place (cases_lt (j / 64) n) where
  is_zero : get_or (zeros n) (j / 64) zero ≡ zero → bit_of (zeros n) j ≡ false
  is_zero e = ap (λ w. is_bit w (j % 64)) e ∙ ap (λ b. b == 1) (bit_at-zero (j % 64))

  by_place : (j / 64 < n) ⊎ (n ≤ j / 64) → bit_of (zeros n) j ≡ false
  by_place (inl below) = is_zero (get_or-replicate n (j / 64) zero zero below)
  by_place (inr past) = is_zero (get_or_past (zeros n) (j / 64) zero (let e = length-replicate n zero in omega arith))

-- a word of two others, bit by bit
pub bit_of_and : (a b k : ℕ) → is_bit (bit_and a b) k ≡ (is_bit a k && is_bit b k)
bit_of_and a b k =
    let e = bit_at_and a b k in
    let f = bit_at-lt a k in
    let g = bit_at-lt b k in
    ap (λ n. n == 1) e ∙ least (bit_at a k) (bit_at b k) f g where
      least : (m n : ℕ) → m < 2 → n < 2 → (min m n == 1) ≡ ((m == 1) && (n == 1))
      least zero zero f g = refl
      least zero (suc zero) f g = refl
      least zero (suc (suc n)) f g = absurd (omega arith)
      least (suc zero) zero f g = refl
      least (suc zero) (suc zero) f g = refl
      least (suc zero) (suc (suc n)) f g = absurd (omega arith)
      least (suc (suc m)) n f g = absurd (omega arith)
