-- Sets of rows, met.
use Rattle.std.proofs.Common.{◌≡◌, ℕ, zero, suc, ◌+◌, ◌-◌, ◌*◌, ◌/◌, ◌%◌, ◌^◌, ◌<◌, ◌≤◌, ◌==◌, ◌⊎◌, inl, inr, Bool, false, ◌&&◌, List, [], ◌∷◌, length, map, take, drop, get_or, refl, ap, sym, subst, ◌∙◌, arith}
use Rattle.std.specs.Prelude.{bit_and, if◌then◌else◌}
use Rattle.std.proofs.lemmas.Bool.{cases_eq, cases_lt, cond-true, cond-false, eq-eqb, ne_eqb}
use Rattle.std.proofs.lemmas.List.{length-take, length-drop, length-map, get_or_past, ext_get_or}
use Rattle.std.proofs.lemmas.Nat.{and_le_l}
use Rattle.std.proofs.lemmas.Simd.{mask_l-lt}
use Rattle.std.proofs.Math.Pow.{pow_mono}
use Rattle.tl_types.specs.Plain as plain
use Rattle.tl_lanes.specs.Masks.{is_bit, word_of}
use Rattle.tl_bits.specs.Sets.{is_member}
use Rattle.tl_lanes.proofs.MaskBits.{bit_of_and}

-- a word of a set has no bit past its rows
word_small : (set : List Bool) (i : ℕ) → word_of set i < 2 ^ (length set - 64 * i)
word_small set i =
    let part = take 64 (drop (64 * i) set) in
    let e = mask_l-lt part in
    let f = length-take 64 (drop (64 * i) set) in
    let h = length-drop (64 * i) set in
    let short : length part ≤ length set - 64 * i = omega arith in
    let k : 2 ^ length part ≤ 2 ^ (length set - 64 * i) = pow_mono short in
    omega arith

pub both_small : (set : List Bool) (i word other n : ℕ) → word ≡ word_of set i → length set ≡ n → bit_and word other < 2 ^ (n - 64 * i)
both_small set i word other n is same =
    let e = and_le_l word other in
    let f : word_of set i < 2 ^ (n - 64 * i) = subst (λ m. word_of set i < 2 ^ (m - 64 * i)) same (word_small set i) in
    omega arith

-- one word more is met
pub met_more : (first old new other : List Bool) (i one two : ℕ)
    → ((k : ℕ) → k < 64 → is_bit one k ≡ is_member old (64 * i + k)) → ((k : ℕ) → k < 64 → is_bit two k ≡ is_member other (64 * i + k))
    → ((row : ℕ) → is_member new row ≡ (if row / 64 == i then is_bit (bit_and one two) (row % 64) else is_member old row))
    → ((row : ℕ) → row / 64 < i → is_member old row ≡ (is_member first row && is_member other row))
    → ((row : ℕ) → i ≤ row / 64 → is_member old row ≡ is_member first row)
    → (row : ℕ) → row / 64 < i + 1 → is_member new row ≡ (is_member first row && is_member other row)
met_more first old new other i one two ones twos put met kept row below = by_place (cases_eq (row / 64) i) where
  by_place : (row / 64 ≡ i) ⊎ (row / 64 ≡ i → ⊥) → is_member new row ≡ (is_member first row && is_member other row)
  by_place (inl same) =
      let at : 64 * i + row % 64 ≡ row = omega arith in
      let small : row % 64 < 64 = omega arith in
      put row ∙ cond-true (row / 64 == i) (is_bit (bit_and one two) (row % 64)) (is_member old row) (eq-eqb (row / 64) i same)
      ∙ bit_of_and one two (row % 64)
      ∙ ap (λ b. b && is_bit two (row % 64)) (ones (row % 64) small ∙ ap (is_member old) at ∙ kept row (omega arith))
      ∙ ap (λ b. is_member first row && b) (twos (row % 64) small ∙ ap (is_member other) at)
  by_place (inr apart) =
      put row ∙ cond-false (row / 64 == i) (is_bit (bit_and one two) (row % 64)) (is_member old row) (ne_eqb (row / 64) i apart) ∙ met row (omega arith)

pub kept_more : (first old new : List Bool) (i word : ℕ)
    → ((row : ℕ) → is_member new row ≡ (if row / 64 == i then is_bit word (row % 64) else is_member old row))
    → ((row : ℕ) → i ≤ row / 64 → is_member old row ≡ is_member first row)
    → (row : ℕ) → i + 1 ≤ row / 64 → is_member new row ≡ is_member first row
kept_more first old new i word put kept row above =
    put row ∙ cond-false (row / 64 == i) (is_bit word (row % 64)) (is_member old row) (ne_eqb (row / 64) i (λ e. absurd (omega arith))) ∙ kept row (omega arith)

-- all words are met
pub met_all : (first new other : List Bool) (words : ℕ) → length new ≡ length first → length first ≤ 64 * words
    → ((row : ℕ) → row / 64 < words → is_member new row ≡ (is_member first row && is_member other row))
    → (row : ℕ) → is_member new row ≡ (is_member first row && is_member other row)
met_all first new other words long all met row = by_place (cases_lt (row / 64) words) where
  by_place : (row / 64 < words) ⊎ (words ≤ row / 64) → is_member new row ≡ (is_member first row && is_member other row)
  by_place (inl below) = met row below
  by_place (inr past) =
      let e : is_member first row ≡ false = get_or_past first row false (omega arith) in
      get_or_past new row false (omega arith) ∙ ap (λ b. b && is_member other row) (sym e)

-- sets of rows by two tests, met
bits_of_both : (f g : plain.Row → Bool) (rows : List plain.Row) (j : ℕ) → get_or (map (λ r. f r && g r) rows) j false ≡ (get_or (map f rows) j false && get_or (map g rows) j false)
bits_of_both f g [] j = refl
bits_of_both f g (r ∷ rows) zero = refl
bits_of_both f g (r ∷ rows) (suc j) = bits_of_both f g rows j

pub both_tests : (f g : plain.Row → Bool) (rows : List plain.Row) (one two new : List Bool) → one ≡ map f rows → two ≡ map g rows → length new ≡ length one
    → ((row : ℕ) → is_member new row ≡ (is_member one row && is_member two row)) → new ≡ map (λ r. f r && g r) rows
both_tests f g rows one two new ones twos long met =
    ext_get_or false new (map (λ r. f r && g r) rows) (long ∙ ap length ones ∙ length-map rows f ∙ sym (length-map rows (λ r. f r && g r)))
    (λ row below. met row ∙ ap (λ s. is_member s row && is_member two row) ones ∙ ap (λ s. is_member (map f rows) row && is_member s row) twos ∙ sym (bits_of_both f g rows row))
