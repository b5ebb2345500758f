-- What sets are by the bits of their words.
use Rattle.std.proofs.Common.{◌≡◌, ◌≢◌, ℕ, zero, suc, ◌+◌, ◌-◌, ◌*◌, ◌/◌, ◌%◌, ◌^◌, ◌≤◌, ◌<◌, ◌==◌, ◌⊎◌, ◌++◌, List, [], ◌∷◌, Bool, true, false, cond, length, get_or, set, take, drop, map, replicate, refl, sym, ◌∙◌, ap, subst, arith, inl, inr}
use Rattle.std.specs.Prelude.{if◌then◌else◌, Option, Some, None, IfNone, count_by, sum_by, count_ones}
use Rattle.std.specs.List.{range_with_len}
use Rattle.std.proofs.lemmas.List.Sums.{sum_by-cons, sum_by-append}
use Rattle.std.proofs.lemmas.List.FromFn.{length-map-range_with_len, get_or-map-range_with_len}
use Rattle.std.proofs.lemmas.Bool.{cases_eq, cases_lt, eq-eqb, ne_eqb, cond-true, cond-false}
use Rattle.std.proofs.lemmas.List.{get_or-set_same, get_or-set_other, get_or_past, length-set, get_or-replicate, length-replicate, get_or_append_left, get_or-append_right, length-append}
use Rattle.std.proofs.Math.Pow.{pow_mono}
use Rattle.std.proofs.lemmas.List.{length-take, get_or-take, get_or-drop, append-nil}
use Rattle.std.proofs.lemmas.Nat.Bits.{bit_at-lt, bit_at-zero, bit_at-trailing_zeros, same_from_bits_below, bit_at_above}
use Rattle.std.proofs.lemmas.Nat.{shr-shr, shr_le}
use Rattle.std.proofs.lemmas.Simd.{mask_l-lt, bit_mask_l, ones-mask_l}
use Rattle.std.specs.Simd.Lanes.{mask_l}
use Rattle.std.specs.Int.{bit_at, bit_not, w64, trailing_zeros}
use Rattle.std.specs.Int.Bits.{or_zero_r}
use mir.Val.{bool_byte}
use Rattle.std.proofs.lemmas.List.{set-set, take_all, replicate-append-replicate}
use Rattle.std.specs.Prelude.{bit_and, bit_or}
use Rattle.tl_bits.specs.Sets.{is_member, IsNext, IsNextBit, IsFirstBit}
use Rattle.tl_lanes.specs.Masks.{words_for, is_bit, bit_of, bits_of, word_of}
use Rattle.tl_lanes.proofs.MaskBits.{NoneFrom, length-bits_of, get_or-bits_of, get_or_within_bits, bits_of_is, bit_set, bit_of_set, bit_of_set_other, bit_of_changed, bit_of_kept, bit_cleared, bit_of_cleared, bit_of_cleared_other, zeros, bit_of_zeros}

-- one bit is put at a value
abbrev pub PutsBit : List ℕ → List ℕ → ℕ → Bool → Type 0
PutsBit old new row bit = (j : ℕ) → bit_of new j ≡ (if j == row then bit else bit_of old j)

pub puts_set : (words : List ℕ) (row : ℕ) → row / 64 < length words → PutsBit words (bit_set words row) row true
puts_set words row there j = by_row (cases_eq j row) where
  by_row : (j ≡ row) ⊎ (j ≡ row → ⊥) → bit_of (bit_set words row) j ≡ (if j == row then true else bit_of words j)
  by_row (inl same) = ap (bit_of (bit_set words row)) same ∙ bit_of_set words row there ∙ sym (cond-true (j == row) true (bit_of words j) (eq-eqb j row same))
  by_row (inr other) = bit_of_set_other words row j there other ∙ sym (cond-false (j == row) true (bit_of words j) (ne_eqb j row other))

pub puts_cleared : (words : List ℕ) (row : ℕ) → row / 64 < length words → PutsBit words (bit_cleared words row) row false
puts_cleared words row there j = by_row (cases_eq j row) where
  by_row : (j ≡ row) ⊎ (j ≡ row → ⊥) → bit_of (bit_cleared words row) j ≡ (if j == row then false else bit_of words j)
  by_row (inl same) = ap (bit_of (bit_cleared words row)) same ∙ bit_of_cleared words row there ∙ sym (cond-true (j == row) false (bit_of words j) (eq-eqb j row same))
  by_row (inr other) = bit_of_cleared_other words row j there other ∙ sym (cond-false (j == row) false (bit_of words j) (ne_eqb j row other))

-- the word of a row, with the row's bit put at the value of a number that is 0 or 1
abbrev put_in : List ℕ → ℕ → ℕ → ℕ
put_in words row b = bit_or (bit_and (get_or words (row / 64) 0) (bit_not w64 (1 * 2 ^ (row % 64) % 2 ^ 64))) (b * 2 ^ (row % 64) % 2 ^ 64)

pub puts_bit : (words : List ℕ) (row b : ℕ) (bit : Bool) → b ≡ bool_byte bit → row / 64 < length words → PutsBit words (set words (row / 64) (put_in words row b)) row bit
puts_bit words row b true is there =
    let cleared = bit_cleared words row in
    let long : row / 64 < length cleared = let e = length-set words (row / 64) (bit_and (get_or words (row / 64) 0) (bit_not w64 (1 * 2 ^ (row % 64) % 2 ^ 64))) in omega arith in
    let word : get_or cleared (row / 64) 0 ≡ bit_and (get_or words (row / 64) 0) (bit_not w64 (1 * 2 ^ (row % 64) % 2 ^ 64)) = get_or-set_same words (row / 64) (bit_and (get_or words (row / 64) 0) (bit_not w64 (1 * 2 ^ (row % 64) % 2 ^ 64))) 0 there in
    let same : bit_set cleared row ≡ set words (row / 64) (put_in words row b) =
    ap (λ w. set cleared (row / 64) (bit_or w (1 * 2 ^ (row % 64) % 2 ^ 64))) word
    ∙ set-set words (row / 64) (bit_and (get_or words (row / 64) 0) (bit_not w64 (1 * 2 ^ (row % 64) % 2 ^ 64))) (put_in words row 1)
    ∙ ap (λ n. set words (row / 64) (put_in words row n)) (sym is) in
    subst (λ new. PutsBit words new row true) same (λ j. puts_set cleared row long j ∙ by_row j (j == row) (puts_cleared words row there j)) where
      by_row : (j : ℕ) (t : Bool) → bit_of (bit_cleared words row) j ≡ cond t false (bit_of words j) → cond t true (bit_of (bit_cleared words row) j) ≡ cond t true (bit_of words j)
      by_row j true h = refl
      by_row j false h = h
puts_bit words row b false is there =
    let none : b * 2 ^ (row % 64) % 2 ^ 64 ≡ 0 = ap (λ n. n * 2 ^ (row % 64) % 2 ^ 64) is ∙ zero_of (2 ^ (row % 64)) in
    let same : bit_cleared words row ≡ set words (row / 64) (put_in words row b) =
    ap (set words (row / 64)) (sym (ap (bit_or (bit_and (get_or words (row / 64) 0) (bit_not w64 (1 * 2 ^ (row % 64) % 2 ^ 64)))) none ∙ or_zero_r (bit_and (get_or words (row / 64) 0) (bit_not w64 (1 * 2 ^ (row % 64) % 2 ^ 64))))) in
    subst (λ new. PutsBit words new row false) same (puts_cleared words row there) where
      zero_of : (n : ℕ) → 0 * n % 2 ^ 64 ≡ 0
      zero_of n = let e : 0 * n ≡ 0 = omega arith in ap (λ m. m % 2 ^ 64) e

-- the list of a set with one bit put
pub bits_of_put : (n : ℕ) (old new : List ℕ) (row : ℕ) (bit : Bool) → row < n → PutsBit old new row bit → bits_of n new ≡ set (bits_of n old) row bit
bits_of_put n old new row bit inside puts =
    bits_of_is n new (set (bits_of n old) row bit) (length-set (bits_of n old) row bit ∙ length-bits_of n old)
    (λ j below. by_row j below (cases_eq j row)) where
      by_row : (j : ℕ) → j < n → (j ≡ row) ⊎ (j ≡ row → ⊥) → bit_of new j ≡ get_or (set (bits_of n old) row bit) j false
      by_row j below (inl same) =
          let long = length-bits_of n old in
          puts j ∙ cond-true (j == row) bit (bit_of old j) (eq-eqb j row same)
          ∙ sym (ap (λ k. get_or (set (bits_of n old) row bit) k false) same ∙ get_or-set_same (bits_of n old) row bit false (omega arith))
      by_row j below (inr other) =
          puts j ∙ cond-false (j == row) bit (bit_of old j) (ne_eqb j row other)
          ∙ sym (get_or-set_other (bits_of n old) row j bit false other ∙ get_or_within_bits n old j below)

-- no further bit is set then
pub none_past_put : (n : ℕ) (old new : List ℕ) (row : ℕ) (bit : Bool) → row < n → NoneFrom n old → PutsBit old new row bit → NoneFrom n new
none_past_put n old new row bit inside none puts j past =
    let other : j ≢ row = λ e. absurd (omega arith) in
    puts j ∙ cond-false (j == row) bit (bit_of old j) (ne_eqb j row other) ∙ none j past

-- a row of the set has a word
pub row_in_words : (n row : ℕ) (words : List ℕ) (set : List Bool) → length words ≡ words_for n → bits_of n words ≡ set → row < length set → row / 64 < length words
row_in_words n row words set long is inside =
    let e = length-bits_of n words in
    let f = ap length is in
    omega arith

pub rows_are : (n : ℕ) (words : List ℕ) (set : List Bool) → bits_of n words ≡ set → n ≡ length set
rows_are n words set is = sym (length-bits_of n words) ∙ ap length is

-- the set with one row put, where its words are lent and taken back
pub set_of_put : (n row : ℕ) (bit : Bool) (old lent new : List ℕ) (now : List Bool) → bits_of n old ≡ now → lent ≡ old → row < length now → PutsBit lent new row bit
    → bits_of n new ≡ set now row bit
set_of_put n row bit old lent new now is same inside puts =
    let e = rows_are n old now is in
    bits_of_put n lent new row bit (omega arith) puts ∙ ap (λ words. set (bits_of n words) row bit) same ∙ ap (λ bits. set bits row bit) is

pub none_past_set : (n row : ℕ) (bit : Bool) (old lent new : List ℕ) (now : List Bool) → bits_of n old ≡ now → lent ≡ old → row < length now → PutsBit lent new row bit
    → NoneFrom n old → NoneFrom n new
none_past_set n row bit old lent new now is same inside puts none =
    let e = rows_are n old now is in
    none_past_put n lent new row bit (omega arith) (subst (λ words. NoneFrom n words) (sym same) none) puts

-- whether a row is a member is its bit
pub member_is_bit : (n : ℕ) (words : List ℕ) (set : List Bool) → bits_of n words ≡ set → NoneFrom n words → (row : ℕ) → is_member set row ≡ bit_of words row
member_is_bit n words set is none row = ap (λ bits. get_or bits row false) (sym is) ∙ get_or-bits_of n words none row

-- the set of none
pub set_of_none : (n m : ℕ) → bits_of n (zeros m) ≡ replicate n false
set_of_none n m =
    bits_of_is n (zeros m) (replicate n false) (length-replicate n false)
    (λ j below. bit_of_zeros m j ∙ sym (get_or-replicate n j false false below))

-- more words with no bit set change no bit
pub bit_of_longer : (words : List ℕ) (m j : ℕ) → bit_of (words ++ zeros m) j ≡ bit_of words j
bit_of_longer words m j = by_place (cases_lt (j / 64) (length words)) where
  by_place : (j / 64 < length words) ⊎ (length words ≤ j / 64) → bit_of (words ++ zeros m) j ≡ bit_of words j
  by_place (inl below) = ap (λ w. is_bit w (j % 64)) (get_or_append_left words (zeros m) zero (j / 64) below)
  by_place (inr past) =
      ap (λ w. is_bit w (j % 64))
      (get_or-append_right words (zeros m) (length words) (j / 64) zero refl past ∙ zeros_at (j / 64 - length words)
      ∙ sym (get_or_past words (j / 64) zero past)) where
        zeros_at : (k : ℕ) → get_or (zeros m) k zero ≡ zero
        zeros_at k = by_end (cases_lt k m) where
          by_end : (k < m) ⊎ (m ≤ k) → get_or (zeros m) k zero ≡ zero
          by_end (inl inside) = get_or-replicate m k zero zero inside
          by_end (inr after) = get_or_past (zeros m) k zero (let e = length-replicate m zero in omega arith)

pub none_past_grown : (n rows m : ℕ) (words : List ℕ) → NoneFrom n words → n ≤ rows → NoneFrom rows (words ++ zeros m)
none_past_grown n rows m words none more j past = bit_of_longer words m j ∙ none j (omega arith)

-- the set with more rows, none of them in it
pub set_of_grown : (n rows m : ℕ) (words : List ℕ) (set : List Bool) → bits_of n words ≡ set → NoneFrom n words → length set ≤ rows
    → bits_of rows (words ++ zeros m) ≡ set ++ replicate (rows - length set) false
set_of_grown n rows m words set is none more =
    let e : length (set ++ replicate (rows - length set) false) ≡ rows =
    length-append set (replicate (rows - length set) false) ∙ ap (λ k. length set + k) (length-replicate (rows - length set) false) ∙ omega arith in
    bits_of_is rows (words ++ zeros m) (set ++ replicate (rows - length set) false) e
    (λ j below. bit_of_longer words m j ∙ sym (member_is_bit n words set is none j) ∙ by_place j below (cases_lt j (length set))) where
      by_place : (j : ℕ) → j < rows → (j < length set) ⊎ (length set ≤ j) → get_or set j false ≡ get_or (set ++ replicate (rows - length set) false) j false
      by_place j below (inl inside) = sym (get_or_append_left set (replicate (rows - length set) false) false j inside)
      by_place j below (inr past) =
          get_or_past set j false past
          ∙ sym (get_or-append_right set (replicate (rows - length set) false) (length set) j false refl past
          ∙ get_or-replicate (rows - length set) (j - length set) false false (omega arith))

-- the words that are lent are those of the set
pub record Shows (n : ℕ) (words lent : List ℕ) (set : List Bool) : Type 0 where
  pub is : bits_of n words ≡ set
  pub lends : lent ≡ words
  pub long : length words ≡ words_for n
  pub none : NoneFrom n words

pub lent_len : (n : ℕ) (words lent : List ℕ) (set : List Bool) → Shows n words lent set → length lent ≡ words_for (length set)
lent_len n words lent set s =
    let e = rows_are n words set s.is in
    ap length s.lends ∙ s.long ∙ ap words_for e

pub member_bit : (n : ℕ) (words lent : List ℕ) (set : List Bool) → Shows n words lent set → (row : ℕ) → is_member set row ≡ bit_of lent row
member_bit n words lent set s row = member_is_bit n words set s.is s.none row ∙ ap (λ ws. bit_of ws row) (sym s.lends)

-- the first bit of the mask is the least member
pub next_member : (n : ℕ) (words lent : List ℕ) (set : List Bool) → Shows n words lent set → (from row : ℕ) → IsNextBit lent from row → IsNext set from row
next_member n words lent set s from row next = record {
  not_below = next.not_below;
  inside = by_place (cases_lt row (length set));
  member = member_bit n words lent set s row ∙ next.bit;
  least = λ j above below. member_bit n words lent set s j ∙ next.lowest j above below;
} where
  by_place : (row < length set) ⊎ (length set ≤ row) → row < length set
  by_place (inl inside) = inside
  by_place (inr past) =
      let e = member_bit n words lent set s row ∙ next.bit in
      let f = get_or_past set row false past in
      absurd (let g : false ≡ true = sym f ∙ e in cc)

-- word `i` of the set
pub word_bits : (n : ℕ) (words lent : List ℕ) (set : List Bool) → Shows n words lent set → (i k : ℕ) → k < 64 → is_bit (get_or lent i 0) k ≡ is_member set (64 * i + k)
word_bits n words lent set s i k small =
    let at : (64 * i + k) / 64 ≡ i = omega arith in
    let low : (64 * i + k) % 64 ≡ k = omega arith in
    sym (member_bit n words lent set s (64 * i + k) ∙ ap (λ w. is_bit (get_or lent w 0) ((64 * i + k) % 64)) at ∙ ap (is_bit (get_or lent i 0)) low)

-- a bit as a number
pub bit_number : (word k : ℕ) → bit_at word k ≡ cond (is_bit word k) 1 0
bit_number word k = by_value (bit_at word k) refl where
  by_value : (b : ℕ) → bit_at word k ≡ b → bit_at word k ≡ cond (is_bit word k) 1 0
  by_value zero e = rw e refl
  by_value (suc zero) e = rw e refl
  by_value (suc (suc b)) e = absurd (let f = bit_at-lt word k in omega arith)

pub word_is : (n : ℕ) (words lent : List ℕ) (set : List Bool) → Shows n words lent set → (i word : ℕ) → word ≡ get_or lent i 0 → word < 2 ^ 64 → word ≡ word_of set i
word_is n words lent set s i word is fits =
    let part = take 64 (drop (64 * i) set) in
    let short : length part ≤ 64 = omega (arith, length-take 64 (drop (64 * i) set)) in
    let other : mask_l part < 2 ^ 64 = let grows : 2 ^ length part ≤ 2 ^ 64 = pow_mono short in let f = mask_l-lt part in omega arith in
    same_from_bits_below 64 word (mask_l part) fits other
    (λ k small. bit_number word k
    ∙ ap (λ w. cond (is_bit w k) 1 0) is
    ∙ ap (λ b. cond b 1 0) (word_bits n words lent set s i k small ∙ sym (get_or-take 64 (drop (64 * i) set) k false small ∙ get_or-drop (64 * i) set k false))
    ∙ sym (bit_mask_l part k))

-- one word put
pub puts_word : (n : ℕ) (words lent new : List ℕ) (members : List Bool) → Shows n words lent members → (i word : ℕ) → i < words_for (length members) → word < 2 ^ (length members - 64 * i)
    → new ≡ set lent i word → (j : ℕ) → bit_of new j ≡ (if j / 64 == i then is_bit word (j % 64) else is_member members j)
puts_word n words lent new members s i word there small is j = by_word (cases_eq (j / 64) i) where
  by_word : (j / 64 ≡ i) ⊎ (j / 64 ≡ i → ⊥) → bit_of new j ≡ (if j / 64 == i then is_bit word (j % 64) else is_member members j)
  by_word (inl same) =
      ap (λ ws. bit_of ws j) is ∙ bit_of_changed lent i word j (omega (arith, lent_len n words lent members s)) same
      ∙ sym (cond-true (j / 64 == i) (is_bit word (j % 64)) (is_member members j) (eq-eqb (j / 64) i same))
  by_word (inr other) =
      ap (λ ws. bit_of ws j) is ∙ bit_of_kept lent i word j other ∙ sym (member_bit n words lent members s j)
      ∙ sym (cond-false (j / 64 == i) (is_bit word (j % 64)) (is_member members j) (ne_eqb (j / 64) i other))

pub none_past_word : (n : ℕ) (words lent new : List ℕ) (members : List Bool) → Shows n words lent members → (i word : ℕ) → i < words_for (length members) → word < 2 ^ (length members - 64 * i)
    → new ≡ set lent i word → NoneFrom n new
none_past_word n words lent new members s i word there small is j past =
    puts_word n words lent new members s i word there small is j ∙ by_word (cases_eq (j / 64) i) where
      rows : n ≡ length members
      rows = rows_are n words members s.is

      by_word : (j / 64 ≡ i) ⊎ (j / 64 ≡ i → ⊥) → (if j / 64 == i then is_bit word (j % 64) else is_member members j) ≡ false
      by_word (inl same) =
          let e = rows in
          cond-true (j / 64 == i) (is_bit word (j % 64)) (is_member members j) (eq-eqb (j / 64) i same)
          ∙ ap (λ b. b == 1) (bit_at_above word (length members - 64 * i) (j % 64) small (omega arith))
      by_word (inr other) =
          let e = rows in
          cond-false (j / 64 == i) (is_bit word (j % 64)) (is_member members j) (ne_eqb (j / 64) i other) ∙ get_or_past members j false (omega arith)

-- a shift to the right takes the low bits away
pub bit_at_shifted : (word from k : ℕ) → bit_at (word / 2 ^ from) k ≡ bit_at word (from + k)
bit_at_shifted word from k = ap (λ n. n % 2) (shr-shr word from k)

-- no bit is left
pub no_bit_left : (word from : ℕ) → word / 2 ^ from ≡ 0 → (k : ℕ) → from ≤ k → is_bit word k ≡ false
no_bit_left word from gone k above =
    let e : from + (k - from) ≡ k = omega arith in
    ap (λ b. b == 1) (ap (bit_at word) (sym e) ∙ sym (bit_at_shifted word from (k - from)) ∙ ap (λ n. bit_at n (k - from)) gone ∙ bit_at-zero (k - from))

-- the zeros below the first bit that is left say where it is
pub first_bit_is : (word from : ℕ) → word < 2 ^ 64 → from < 64 → word / 2 ^ from ≢ 0
    → IsFirstBit word from (from + trailing_zeros w64 (word / 2 ^ from))
first_bit_is word from fits small some =
    let rest = word / 2 ^ from in
    let positive : 0 < rest = omega arith in
    let less : rest < 2 ^ 64 = omega (arith, shr_le word from) in
    let found = bit_at-trailing_zeros w64 rest positive less in record {
      not_below = omega arith;
      inside = within word from fits found.1;
      bit = ap (λ b. b == 1) (sym (bit_at_shifted word from (trailing_zeros w64 rest)) ∙ found.1);
      lowest = λ j above below.
          let e : from + (j - from) ≡ j = omega arith in
          let lower : j - from < trailing_zeros w64 rest = omega arith in
          ap (λ b. b == 1) (ap (bit_at word) (sym e) ∙ sym (bit_at_shifted word from (j - from)) ∙ found.2 (j - from) lower);
    } where
      within : (word from : ℕ) → word < 2 ^ 64 → bit_at (word / 2 ^ from) (trailing_zeros w64 (word / 2 ^ from)) ≡ 1 → from + trailing_zeros w64 (word / 2 ^ from) < 64
      within word from fits is = by_place (cases_lt (from + trailing_zeros w64 (word / 2 ^ from)) 64) where
        by_place : (from + trailing_zeros w64 (word / 2 ^ from) < 64) ⊎ (64 ≤ from + trailing_zeros w64 (word / 2 ^ from)) → from + trailing_zeros w64 (word / 2 ^ from) < 64
        by_place (inl inside) = inside
        by_place (inr past) =
            let e = bit_at_shifted word from (trailing_zeros w64 (word / 2 ^ from)) in
            let f = bit_at_above word 64 (from + trailing_zeros w64 (word / 2 ^ from)) fits past in
            absurd (let g : 0 ≡ 1 = sym f ∙ sym e ∙ is in omega arith)

-- what follows where there is no value
pub IfNone_then : {X : Type 0} (o : Option X) {P Q : Type 0} → IfNone o P → (P → Q) → IfNone o Q
IfNone_then None p f = f p
IfNone_then (Some x) p f = tt

-- the first word's bits, and those of the other words
pub bits_of_more : (k word m : ℕ) (words : List ℕ) → k ≡ 64 → bits_of (k + m) (word ∷ words) ≡ map (is_bit word) (range_with_len 0 k) ++ bits_of m words
bits_of_more k word m words is =
    bits_of_is (k + m) (word ∷ words) (map (is_bit word) (range_with_len 0 k) ++ bits_of m words)
    (length-append (map (is_bit word) (range_with_len 0 k)) (bits_of m words)
    ∙ (let e = length-map-range_with_len (is_bit word) 0 k in let f = length-bits_of m words in omega arith))
    (λ j below. by_place j below (cases_lt j k)) where
      by_place : (j : ℕ) → j < k + m → (j < k) ⊎ (k ≤ j) → bit_of (word ∷ words) j ≡ get_or (map (is_bit word) (range_with_len 0 k) ++ bits_of m words) j false
      by_place j below (inl first) =
          let at : j / 64 ≡ 0 = omega arith in
          let low : j % 64 ≡ j = omega arith in
          ap (λ q. is_bit (get_or (word ∷ words) q 0) (j % 64)) at ∙ ap (is_bit word) low
          ∙ sym (get_or_append_left (map (is_bit word) (range_with_len 0 k)) (bits_of m words) false j (let e = length-map-range_with_len (is_bit word) 0 k in omega arith)
          ∙ get_or-map-range_with_len (is_bit word) 0 k j j false first (omega arith))
      by_place j below (inr later) =
          let at : j / 64 ≡ suc ((j - k) / 64) = omega arith in
          let low : j % 64 ≡ (j - k) % 64 = omega arith in
          ap (λ q. is_bit (get_or (word ∷ words) q 0) (j % 64)) at ∙ ap (is_bit (get_or words ((j - k) / 64) 0)) low
          ∙ sym (get_or-append_right (map (is_bit word) (range_with_len 0 k)) (bits_of m words) k j false (length-map-range_with_len (is_bit word) 0 k) later
          ∙ get_or_within_bits m words (j - k) (omega arith))

-- a word as the number that its bits write
pub word_from_bits : (k word : ℕ) → word < 2 ^ k → word ≡ mask_l (map (is_bit word) (range_with_len 0 k))
word_from_bits k word fits =
    let bits = map (is_bit word) (range_with_len 0 k) in
    let long : length bits ≡ k = length-map-range_with_len (is_bit word) 0 k in
    let less : mask_l bits < 2 ^ k = subst (λ n. mask_l bits < 2 ^ n) long (mask_l-lt bits) in
    same_from_bits_below k word (mask_l bits) fits less
    (λ j small. bit_number word j
    ∙ ap (λ b. cond b 1 0) (sym (get_or-map-range_with_len (is_bit word) 0 k j j false small (omega arith)))
    ∙ sym (bit_mask_l bits j))

abbrev set_bits : List Bool → ℕ
set_bits bits = count_by (λ bit. bit) bits

pub set_bits-map : {X : Type 0} (p : X → Bool) → (xs : List X) → set_bits (map p xs) ≡ count_by p xs
set_bits-map p [] = refl
set_bits-map p (x ∷ xs) =
    sum_by-cons (λ (bit : Bool). cond bit 1 0) (p x) (map p xs) ∙ ap (λ n. cond (p x) 1 0 + n) (set_bits-map p xs)
    ∙ sym (sum_by-cons (λ y. cond (p y) 1 0) x xs)

pub set_bits-append : (xs ys : List Bool) → set_bits (xs ++ ys) ≡ set_bits xs + set_bits ys
set_bits-append xs ys = sum_by-append (λ (bit : Bool). cond bit 1 0) xs ys

pub set_bits-none : (n : ℕ) → set_bits (replicate n false) ≡ 0
set_bits-none zero = refl
set_bits-none (suc n) = sum_by-cons (λ (bit : Bool). cond bit 1 0) false (replicate n false) ∙ ap (λ k. 0 + k) (set_bits-none n)

pub set_bits_of_word : (k word : ℕ) → word < 2 ^ k → set_bits (map (is_bit word) (range_with_len 0 k)) ≡ count_ones word
set_bits_of_word k word fits =
    set_bits-map (is_bit word) (range_with_len 0 k) ∙ sym (ones-mask_l (is_bit word) (range_with_len 0 k))
    ∙ ap count_ones (sym (word_from_bits k word fits))

-- all bits of the words
pub set_bits_of_words : (words : List ℕ) → ((i : ℕ) → get_or words i 0 < 2 ^ 64) → set_bits (bits_of (64 * length words) words) ≡ sum_by count_ones words
set_bits_of_words [] fit = refl
set_bits_of_words (word ∷ words) fit =
    let more : 64 * length (word ∷ words) ≡ 64 + 64 * length words = omega arith in
    ap (λ n. set_bits (bits_of n (word ∷ words))) more ∙ of_more 64 refl (set_bits_of_words words (λ i. fit (suc i)))
    ∙ sym (sum_by-cons count_ones word words) where
      of_more : (k : ℕ) → k ≡ 64 → set_bits (bits_of (64 * length words) words) ≡ sum_by count_ones words → set_bits (bits_of (k + 64 * length words) (word ∷ words)) ≡ count_ones word + sum_by count_ones words
      of_more k is rest =
          ap set_bits (bits_of_more k word (64 * length words) words is)
          ∙ set_bits-append (map (is_bit word) (range_with_len 0 k)) (bits_of (64 * length words) words)
          ∙ ap (λ n. n + set_bits (bits_of (64 * length words) words)) (set_bits_of_word k word (subst (λ n. word < 2 ^ n) (sym is) (fit 0)))
          ∙ ap (λ n. count_ones word + n) rest

-- the bits past the rows count for nothing
pub count_of_set : (n : ℕ) (words lent : List ℕ) (set : List Bool) → Shows n words lent set → set_bits (bits_of (64 * length lent) lent) ≡ set_bits set
count_of_set n words lent set s =
    let e = rows_are n words set s.is in
    let long = s.long in
    let all = 64 * length lent in
    let same : length lent ≡ length words = ap length s.lends in
    let grown = set_of_grown n all 0 words set s.is s.none (omega arith) in
    ap (λ ws. set_bits (bits_of all ws)) (s.lends ∙ sym (append-nil words)) ∙ ap set_bits grown
    ∙ set_bits-append set (replicate (all - length set) false) ∙ ap (λ n. set_bits set + n) (set_bits-none (all - length set)) ∙ omega arith

-- zeros up to a place, and then up to one behind it
pub more_zeros : (old new : List ℕ) (i n : ℕ) → old ≡ replicate i 0 → i ≤ n
    → new ≡ take n old ++ replicate (n - length old) 0 → new ≡ replicate n 0
more_zeros old new i n e le f =
    let long : length old ≡ i = ap length e ∙ length-replicate i 0 in
    let whole : take n old ≡ old = take_all n old (omega arith) in
    let all : i + (n - i) ≡ n = omega arith in
    f ∙ rw (whole, long, e, replicate-append-replicate, all) refl
