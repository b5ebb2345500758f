-- The numbers that words spell.
use Rattle.std.proofs.Common.{◌≡◌, ℕ, ◌<◌, ◌^◌, nat_lt, nat_le, Bool, true, false, ◌&&◌, cond, List, [], ◌∷◌, length, get_or, Option, Some, None, IfSome, Result, refl, ap, sym, ◌∙◌, arith}
use Rattle.std.specs.Result.{result_ok}
use Rattle.std.specs.Char.{is_ascii_digit}
use Rattle.std.specs.List.{list_all}
use Rattle.std.specs.Str.{all_ascii_digits, IsUtf8, is_utf8}
use Rattle.std.proofs.lemmas.Str.{IsUtf8-from_is_utf8}
use Rattle.std.proofs.lemmas.List.Folds.{list_all_at}
use Rattle.std.specs.Str.Parse.{digits_value, ParsesUnsigned}
use Rattle.std.proofs.lemmas.Str.Parse.{parse_digits}
use Rattle.std.proofs.lemmas.Bool.{ltb-true}
use Rattle.std.proofs.lemmas.Bool.Decides.{nat_tests}
use Rattle.tl_csv.proofs.NumberLemmas.{own, ok_by_test, both_tests, all_tests, lt_true}
use Rattle.std.specs.Prelude.{◌≤◌, codes, String}
use Rattle.tl_types.specs.Names.{same_bytes}
use Rattle.tl_program.specs.Commands.{spelled_number, within, workers_by, every_by, options_of, texts_of}

all_digits : (bs : List ℕ) → all_ascii_digits bs ≡ list_all is_ascii_digit bs
all_digits [] = refl
all_digits (b ∷ bs) = ap (λ t. is_ascii_digit b && t) (all_digits bs)

-- what parsing digits gives
pub number_parsed : {E : Type 0} (bs : List ℕ) (r : Result ℕ E) → ParsesUnsigned 64 10 bs r → list_all is_ascii_digit bs ≡ true → result_ok r ≡ spelled_number bs
number_parsed bs r h digits =
    ok_by_test r (nat_lt 0 (length bs) && list_all is_ascii_digit bs && nat_lt (digits_value 10 bs) (2 ^ 64)) _ (parse_digits own 64 bs r h (all_digits bs ∙ digits))
    (λ t. let p = both_tests _ _ _ t in (ltb-true _ _ p.0, ltb-true _ _ p.2))
    (λ p. all_tests _ _ _ (lt_true _ _ p.0) digits (lt_true _ _ p.1))

-- at most 1,000,000 lines are fewer than 2 ^ 32
pub few_lines : (o : Option ℕ) → IfSome (within 1 1000000 o) (λ n. n < 4294967296)
few_lines None = tt
few_lines (Some n) = by_test (nat_le 1 n && nat_le n 1000000) refl where
  both : (a b : Bool) → (a && b) ≡ true → b ≡ true
  both true b h = h
  both false b h = absurd (cc)

  by_test : (t : Bool) → (nat_le 1 n && nat_le n 1000000) ≡ t → IfSome (cond t (Some n) None) (λ m. m < 4294967296)
  by_test true e = let h = both (nat_le 1 n) (nat_le n 1000000) e in grind (arith, nat_tests)
  by_test false e = tt

-- a version of a shipment is below 2 ^ 32
pub few_versions : (o : Option ℕ) → IfSome (within 0 16777215 o) (λ n. n < 4294967296)
few_versions None = tt
few_versions (Some n) = by_test (nat_le 0 n && nat_le n 16777215) refl where
  both : (a b : Bool) → (a && b) ≡ true → b ≡ true
  both true b h = h
  both false b h = absurd (cc)

  by_test : (t : Bool) → (nat_le 0 n && nat_le n 16777215) ≡ t → IfSome (cond t (Some n) None) (λ m. m < 4294967296)
  by_test true e = let h = both (nat_le 0 n) (nat_le n 16777215) e in grind (arith, nat_tests)
  by_test false e = tt

-- each of several words is UTF-8 where all are
pub word_is_utf8 : (given : List (List ℕ)) (i : ℕ) (d word : List ℕ) → list_all is_utf8 given ≡ true → i < length given → word ≡ get_or given i d → IsUtf8 word
word_is_utf8 given i d word all within is = by_test (is_utf8 (get_or given i d)) refl where
  by_test : (t : Bool) → is_utf8 (get_or given i d) ≡ t → IsUtf8 word
  by_test true e = IsUtf8-from_is_utf8 word (ap is_utf8 is ∙ e)
  by_test false e = absurd (let f : true ≡ false = sym all ∙ list_all_at is_utf8 given i d within e in cc)

-- a number within bounds lies between them
within_bounds : (least most : ℕ) (o : Option ℕ) → IfSome (within least most o) (λ n. (least ≤ n) × (n ≤ most))
within_bounds least most None = tt
within_bounds least most (Some n) = by_test (nat_le least n && nat_le n most) refl where
  by_test : (t : Bool) → (nat_le least n && nat_le n most) ≡ t → IfSome (cond t (Some n) None) (λ m. (least ≤ m) × (m ≤ most))
  by_test true e = (grind (arith, nat_tests), grind (arith, nat_tests))
  by_test false e = tt

if_test : (P : ℕ → Type 0) (t : Bool) (o : Option ℕ) → IfSome o P → IfSome (cond t o None) P
if_test P true o h = h
if_test P false o h = tt

if_more : (P Q : ℕ → Type 0) (o : Option ℕ) → ((n : ℕ) → P n → Q n) → IfSome o P → IfSome o Q
if_more P Q None f h = tt
if_more P Q (Some n) f h = f n h

pub few_workers : (word number : List ℕ) → IfSome (workers_by word number) (λ n. (0 < n) × (n ≤ 64))
few_workers word number =
    if_test _ (same_bytes word (codes "--workers")) (within 1 64 (spelled_number number))
    (if_more _ _ (within 1 64 (spelled_number number)) (λ n h. (omega (arith, h.0), h.1)) (within_bounds 1 64 (spelled_number number)))

pub few_events : (word number : List ℕ) → IfSome (every_by word number) (λ n. n < 4294967296)
few_events word number =
    if_test _ (same_bytes word (codes "--every")) (within 0 16777216 (spelled_number number))
    (if_more _ _ (within 0 16777216 (spelled_number number)) (λ n h. (let e = h.1 in omega (arith, e))) (within_bounds 0 16777216 (spelled_number number)))

-- one word, or three, are no options
pub one_alone : {A : Type 0} (words : List (String A)) → 1 ≤ length words → length words < 2 → None ≡ options_of (texts_of words)
one_alone [] least most = absurd (omega (arith, least))
one_alone (a ∷ []) least most = refl
one_alone (a ∷ b ∷ ws) least most = absurd (omega (arith, most))

pub three_alone : {A : Type 0} (words : List (String A)) → 3 ≤ length words → length words < 4 → None ≡ options_of (texts_of words)
three_alone [] least most = absurd (omega (arith, least))
three_alone (a ∷ []) least most = absurd (omega (arith, least))
three_alone (a ∷ b ∷ []) least most = absurd (omega (arith, least))
three_alone (a ∷ b ∷ c ∷ []) least most = refl
three_alone (a ∷ b ∷ c ∷ d ∷ ws) least most = absurd (omega (arith, most))
