-- Flags of small numbers, and keys that stand once each.
use Rattle.std.proofs.Common.{◌≡◌, ℕ, pos, ◌+◌, ◌*◌, ◌/◌, ◌%◌, ◌^◌, ◌<◌, Bool, true, false, ◌||◌, nat_eq, List, [], ◌∷◌, map, drop, length, get_or, set, bit_and, bit_or, refl, sym, ap, ◌∙◌, subst, arith}
use Rattle.std.specs.Borrow.{Bor}
use Rattle.std.specs.Int.{bit_at, w64}
use Rattle.std.specs.Ordering.{int_eq}
use Rattle.std.proofs.lemmas.Bool.{cases_eq}
use Rattle.std.proofs.lemmas.Int.{ints}
use Rattle.std.proofs.lemmas.List.{get_or-set_same, get_or-set_other}
use Rattle.std.proofs.lemmas.Nat.Bits.{bit_at_set_same, bit_at_set_other, shr_and_one}
use Rattle.std.specs.Prelude.{◌⊎◌}
use Rattle.std.proofs.Common.{inl, inr}
use Rattle.tl_types.specs.declared.cells.Cell.{Cell}
use Rattle.tl_types.specs.declared.cells.Cell.TheVariants as cell
use Rattle.tl_types.specs.History.{same_cell}
use Rattle.tl_batch.specs.Flags.{has_flag}
use Rattle.tl_batch.specs.Untimed.{has_cell, AreFresh}
use Rattle.tl_batch.proofs.UntimedLemmas.{dropped}

-- ONE MARK

-- the words after one more flag
abbrev pub flags_with : List ℕ → ℕ → List ℕ
flags_with flags n = set flags (n / 64) (bit_or (get_or flags (n / 64) 0) (1 * 2 ^ (n % 64) % 2 ^ 64))

below_64 : (n : ℕ) → n % 64 < 64
below_64 n = omega arith

pub flag_here : (flags : List ℕ) (n : ℕ) → n / 64 < length flags → has_flag (flags_with flags n) n ≡ true
flag_here flags n within =
    let word = get_or-set_same flags (n / 64) (bit_or (get_or flags (n / 64) 0) (1 * 2 ^ (n % 64) % 2 ^ 64)) 0 within in
    ap (λ b. nat_eq b 1) (ap (λ w. bit_at w (n % 64)) word ∙ bit_at_set_same w64 (get_or flags (n / 64) 0) (n % 64) (below_64 n))

pub flag_kept : (flags : List ℕ) (n k : ℕ) → n / 64 < length flags → has_flag flags k ≡ true → has_flag (flags_with flags n) k ≡ true
flag_kept flags n k within m = by_word (cases_eq (k / 64) (n / 64)) where
  more : ℕ
  more = bit_or (get_or flags (n / 64) 0) (1 * 2 ^ (n % 64) % 2 ^ 64)

  by_bit : k / 64 ≡ n / 64 → (k % 64 ≡ n % 64) ⊎ (k % 64 ≡ n % 64 → ⊥) → has_flag (flags_with flags n) k ≡ true
  by_bit same (inl e) = let k_is : k ≡ n = omega arith in subst (λ j. has_flag (flags_with flags n) j ≡ true) (sym k_is) (flag_here flags n within)
  by_bit same (inr e) =
      let word : get_or (set flags (n / 64) more) (k / 64) 0 ≡ more = ap (λ i. get_or (set flags (n / 64) more) i 0) same ∙ get_or-set_same flags (n / 64) more 0 within in
      ap (λ b. nat_eq b 1) (ap (λ w. bit_at w (k % 64)) word ∙ (bit_at_set_other w64 (get_or flags (n / 64) 0) (n % 64) (below_64 n) (k % 64) e ∙ ap (λ i. bit_at (get_or flags i 0) (k % 64)) (sym same))) ∙ m

  by_word : (k / 64 ≡ n / 64) ⊎ (k / 64 ≡ n / 64 → ⊥) → has_flag (flags_with flags n) k ≡ true
  by_word (inl same) = by_bit same (cases_eq (k % 64) (n % 64))
  by_word (inr other) = ap (λ w. nat_eq (bit_at w (k % 64)) 1) (get_or-set_other flags (n / 64) (k / 64) more 0 other) ∙ m

-- a bit that is 0 is no flag
pub flag_fresh : (flags : List ℕ) (n : ℕ) → nat_eq (bit_and (get_or flags (n / 64) 0 / 2 ^ (n % 64)) 1) 0 ≡ true → has_flag flags n ≡ false
flag_fresh flags n e =
    let bit : bit_and (get_or flags (n / 64) 0 / 2 ^ (n % 64)) 1 ≡ bit_at (get_or flags (n / 64) 0) (n % 64) = shr_and_one (get_or flags (n / 64) 0) (n % 64) in
    none (bit_at (get_or flags (n / 64) 0) (n % 64)) (ap (λ b. nat_eq b 0) (sym bit) ∙ e) where
      none : (b : ℕ) → nat_eq b 0 ≡ true → nat_eq b 1 ≡ false
      none b f = grind arith

-- KEYS

-- the keys before a place stand once each if those behind it do, and have their flags
pub record HaveFlags (flags : List ℕ) (keys : List (Bor Cell)) (i : ℕ) : Type 0 where
  pub earlier : List Cell
  pub fresh : AreFresh earlier (map (λ k. k.now) (drop i keys)) → AreFresh [] (map (λ k. k.now) keys)
  pub flagged : (n : ℕ) → has_cell earlier (cell.Int (pos n)) ≡ true → has_flag flags n ≡ true

pub no_flags : (flags : List ℕ) (keys : List (Bor Cell)) → HaveFlags flags keys 0
no_flags flags keys = record { earlier = []; fresh = λ f. f; flagged = λ n. λ e. absurd (cc) }

pub one_flag : (old new : List ℕ) (keys : List (Bor Cell)) (i : ℕ) (k : Bor Cell) (number : ℕ) → i < length keys → k ≡ get_or keys i k → k.now ≡ cell.Int (pos number)
    → has_flag old number ≡ false → has_flag new number ≡ true → ((n : ℕ) → has_flag old n ≡ true → has_flag new n ≡ true)
    → HaveFlags old keys i → HaveFlags new keys (i + 1)
one_flag old new keys i k number h at is free here kept so_far = record { earlier = k.now ∷ so_far.earlier; fresh = fresh; flagged = flagged } where
  rest : List Cell
  rest = map (λ (q : Bor Cell). q.now) (drop (i + 1) keys)

  apart : (b : Bool) → has_cell so_far.earlier (cell.Int (pos number)) ≡ b → has_cell so_far.earlier (cell.Int (pos number)) ≡ false
  apart true e = absurd (let m = so_far.flagged number e in cc)
  apart false e = e

  fresh : AreFresh (k.now ∷ so_far.earlier) rest → AreFresh [] (map (λ q. q.now) keys)
  fresh f = so_far.fresh (subst (AreFresh so_far.earlier) (sym (dropped keys i k h at)) (ap (has_cell so_far.earlier) is ∙ apart (has_cell so_far.earlier (cell.Int (pos number))) refl, f))

  flagged : (n : ℕ) → has_cell (k.now ∷ so_far.earlier) (cell.Int (pos n)) ≡ true → has_flag new n ≡ true
  flagged n e = by_test (int_eq (pos n) (pos number)) refl where
    by_test : (b : Bool) → int_eq (pos n) (pos number) ≡ b → has_flag new n ≡ true
    by_test true f = let same : n ≡ number = grind (arith, ints) in subst (λ m. has_flag new m ≡ true) (sym same) here
    by_test false f = kept n (so_far.flagged n (sym (ap (λ c. same_cell (cell.Int (pos n)) c || has_cell so_far.earlier (cell.Int (pos n))) is ∙ ap (λ b. b || has_cell so_far.earlier (cell.Int (pos n))) f) ∙ e))

pub all_flags : (flags : List ℕ) (keys : List (Bor Cell)) (i : ℕ) → map (λ (k : Bor Cell). k.now) (drop i keys) ≡ [] → HaveFlags flags keys i → AreFresh [] (map (λ k. k.now) keys)
all_flags flags keys i end so_far = so_far.fresh (subst (AreFresh so_far.earlier) (sym end) tt)
