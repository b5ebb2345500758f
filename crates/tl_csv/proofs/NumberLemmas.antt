-- Numbers that fields spell.
use Rattle.std.proofs.Common.{◌≡◌, ◌≢◌, ℕ, suc, ◌+◌, ◌*◌, ◌^◌, ◌<◌, ◌≤◌, nat_lt, nat_le, ◌==◌, ℤ, pos, neg_ℤ, Bool, true, false, cond, ◌&&◌, List, [], ◌∷◌, length, drop, sym, Some, None, Result, Ok, Err, IsUtf8, codes, ◌∙◌, refl, ap, arith}
use Rattle.std.proofs.Math.ListN.{drop_of_length-le}
use native.Mathlib.Nat.{pow-le-pow_right, pow-succ'}
use Rattle.std.specs.Int.{w64}
use Rattle.std.specs.Result.{OkIff, result_ok}
use Rattle.std.specs.Char.{is_ascii_digit}
use Rattle.std.specs.Str.{all_ascii_digits, chars, is_utf8}
use Rattle.std.specs.Str.Parse.{ParsesSigned, digits_value, digits_value_after}
use Rattle.std.proofs.lemmas.Str.Parse.{IsNumeralModel, numerals_by_value, tells_all_ascii_digits, parse_signed_minus, parse_signed_plain, parse_signed_plus}
use Rattle.std.proofs.lemmas.Str.{IsUtf8-append, IsUtf8-from_ascii, IsUtf8-from_is_utf8, is_utf8-from_IsUtf8}
use Rattle.std.proofs.lemmas.Fmt.{IsAscii-from_digits}
use Rattle.tl_types.specs.Names.{same_bytes}
use Rattle.tl_types.proofs.FoundTables.{same_names}
use Rattle.std.proofs.lemmas.Bool.{ltb-true}
use Rattle.std.proofs.lemmas.Bool.Decides.{nat_tests}
use Rattle.std.proofs.lemmas.Grind.{common_steps}
use Rattle.tl_csv.specs.Numbers.{are_digits, positive, negative, integer_of}

-- decimal digits and their values
pub own : IsNumeralModel (λ ds. all_ascii_digits ds ≡ true) (digits_value 10)
own = numerals_by_value _ tells_all_ascii_digits

-- a result that is right exactly where a test is
pub ok_by_test : {X E : Type 0} {P : Type 0} (r : Result X E) (t : Bool) (v : X) → OkIff r P v → (t ≡ true → P) → (P → t ≡ true) → result_ok r ≡ cond t (Some v) None
ok_by_test (Ok x) true v h to from = ap Some h.1
ok_by_test (Ok x) false v h to from = absurd (let e = from h.0 in cc)
ok_by_test (Err e) true v h to from = absurd (h (to refl))
ok_by_test (Err e) false v h to from = refl

pub both_tests : (a b c : Bool) → (a && b && c) ≡ true → (a ≡ true) × (b ≡ true) × (c ≡ true)
both_tests true true true h = (refl, refl, refl)
both_tests true true false h = absurd (cc)
both_tests true false c h = absurd (cc)
both_tests false b c h = absurd (cc)

both_digits : (a b : Bool) → (a && b) ≡ true → (a ≡ true) × (b ≡ true)
both_digits true true h = (refl, refl)
both_digits true false h = absurd (cc)
both_digits false b h = absurd (cc)

pub all_tests : (a b c : Bool) → a ≡ true → b ≡ true → c ≡ true → (a && b && c) ≡ true
all_tests a b c p q r = cc

pub lt_true : (a b : ℕ) → a < b → nat_lt a b ≡ true
lt_true a b h = grind (arith, common_steps)

le_true : (a b : ℕ) → a ≤ b → nat_le a b ≡ true
le_true a b h = grind (arith, common_steps)

true_lt : (a b : ℕ) → nat_lt a b ≡ true → a < b
true_lt a b h = ltb-true a b h

true_le : (a b : ℕ) → nat_le a b ≡ true → a ≤ b
true_le a b h = grind (arith, nat_tests)

parsed_positive : {E : Type 0} (ds : List ℕ) (r : Result ℤ E) → OkIff r ((all_ascii_digits ds ≡ true) × (0 < length ds) × (digits_value 10 ds < 2 ^ 63)) (pos (digits_value 10 ds)) → result_ok r ≡ positive ds
parsed_positive ds r h =
    ok_by_test r (are_digits ds && nat_lt (digits_value 10 ds) (2 ^ 63)) _ h
    (λ t. let p = both_tests _ _ _ t in (p.1, true_lt _ _ p.0, true_lt _ _ p.2))
    (λ p. all_tests _ _ _ (lt_true _ _ p.1) p.0 (lt_true _ _ p.2))

parsed_negative : {E : Type 0} (ds : List ℕ) (r : Result ℤ E) → OkIff r ((all_ascii_digits ds ≡ true) × (0 < length ds) × (digits_value 10 ds ≤ 2 ^ 63)) (neg_ℤ (pos (digits_value 10 ds))) → result_ok r ≡ negative ds
parsed_negative ds r h =
    ok_by_test r (are_digits ds && nat_le (digits_value 10 ds) (2 ^ 63)) _ h
    (λ t. let p = both_tests _ _ _ t in (p.1, true_lt _ _ p.0, true_le _ _ p.2))
    (λ p. all_tests _ _ _ (lt_true _ _ p.1) p.0 (le_true _ _ p.2))

eq_true : (a b : ℕ) → (a == b) ≡ true → a ≡ b
eq_true a b h = grind (arith, nat_tests)

eq_false : (a b : ℕ) → (a == b) ≡ false → a ≢ b
eq_false a b h e = grind (arith, nat_tests)

none_parsed : {E : Type 0} (r : Result ℤ E) → OkIff r ((all_ascii_digits [] ≡ true) × (0 < 0) × (digits_value 10 [] < 2 ^ 63)) (pos (digits_value 10 [])) → result_ok r ≡ None
none_parsed (Ok x) h = absurd (omega (arith, h.0.1))
none_parsed (Err e) h = refl

-- what parsing a field as a number gives
pub integer_parsed : {E : Type 0} (bs : List ℕ) (r : Result ℤ E) → ParsesSigned w64 10 bs r → result_ok r ≡ integer_of bs
integer_parsed [] r h = none_parsed r (parse_signed_plain own w64 [] r h (omega arith) (omega arith))
integer_parsed (b ∷ bs) r h = by_minus (b == 45) refl where
  by_plus : (t : Bool) → (b == 43) ≡ t → (b == 45) ≡ false → result_ok r ≡ integer_of (b ∷ bs)
  by_plus true e m = rw (m, e) (parsed_positive bs r (parse_signed_plus own w64 (b ∷ bs) r h (eq_true b 43 e)))
  by_plus false e m = rw (m, e) (parsed_positive (b ∷ bs) r (parse_signed_plain own w64 (b ∷ bs) r h (eq_false b 43 e) (eq_false b 45 m)))

  by_minus : (t : Bool) → (b == 45) ≡ t → result_ok r ≡ integer_of (b ∷ bs)
  by_minus true e = rw e (parsed_negative bs r (parse_signed_minus own w64 (b ∷ bs) r h (eq_true b 45 e)))
  by_minus false e = by_plus (b == 43) refl e

-- WHAT DIGITS ALONE TELL

chosen : {X : Type 0} (t : Bool) (x y : X) → t ≡ true → cond t x y ≡ x
chosen t x y h = rw h refl

-- digits of a number below 2 ^ 63
read_positive : (ds : List ℕ) (n : ℕ) → are_digits ds ≡ true → digits_value 10 ds ≡ n → n < 2 ^ 63 → positive ds ≡ Some (pos n)
read_positive ds n d v l =
    let small : nat_lt (digits_value 10 ds) (2 ^ 63) ≡ true = lt_true _ _ (rw v l) in
    let both = both_digits (nat_lt 0 (length ds)) (all_ascii_digits ds) d in
    chosen _ (Some (pos (digits_value 10 ds))) None (all_tests (nat_lt 0 (length ds)) (all_ascii_digits ds) (nat_lt (digits_value 10 ds) (2 ^ 63)) both.0 both.1 small) ∙ ap (λ k. Some (pos k)) v

read_negative : (ds : List ℕ) (n : ℕ) → are_digits ds ≡ true → digits_value 10 ds ≡ n → n < 2 ^ 63 → negative ds ≡ Some (neg_ℤ (pos n))
read_negative ds n d v l =
    let small : nat_le (digits_value 10 ds) (2 ^ 63) ≡ true = le_true _ _ (rw v (omega (arith, l))) in
    let both = both_digits (nat_lt 0 (length ds)) (all_ascii_digits ds) d in
    chosen _ (Some (neg_ℤ (pos (digits_value 10 ds)))) None (all_tests (nat_lt 0 (length ds)) (all_ascii_digits ds) (nat_le (digits_value 10 ds) (2 ^ 63)) both.0 both.1 small) ∙ ap (λ k. Some (neg_ℤ (pos k))) v

-- a digit is no sign
no_sign : (b : ℕ) → is_ascii_digit b ≡ true → ((b == 45) ≡ false) × ((b == 43) ≡ false)
no_sign b h = (grind (arith, nat_tests), grind (arith, nat_tests))

pub spells_positive : (field : List ℕ) (n : ℕ) → are_digits field ≡ true → digits_value 10 field ≡ n → n < 2 ^ 63 → integer_of field ≡ Some (pos n)
spells_positive [] n d v l = absurd (cc)
spells_positive (b ∷ bs) n d v l =
    let digit = both_digits (is_ascii_digit b) (all_ascii_digits bs) (both_digits (nat_lt 0 (length (b ∷ bs))) (all_ascii_digits (b ∷ bs)) d).1 in
    let sign = no_sign b digit.0 in
    rw (sign.0, sign.1) (read_positive (b ∷ bs) n d v l)

pub spells_negative : (field digits : List ℕ) (first n : ℕ) → field ≡ first ∷ digits → first ≡ 45 → are_digits digits ≡ true → digits_value 10 digits ≡ n → n < 2 ^ 63 → integer_of field ≡ Some (neg_ℤ (pos n))
spells_negative field digits first n f m d v l = rw (f, m) (read_negative digits n d v l)

-- digits are text, also behind a minus
digits_utf8 : (ds : List ℕ) → are_digits ds ≡ true → IsUtf8 ds
digits_utf8 ds d = IsUtf8-from_ascii ds (IsAscii-from_digits ds (own.to ds (both_digits (nat_lt 0 (length ds)) (all_ascii_digits ds) d).1))

minus_is_utf8 : is_utf8 (45 ∷ []) ≡ true
unfolding is_utf8 chars lib.Utf8.encode
minus_is_utf8 = refl

pub digits_are_text : (ds : List ℕ) → are_digits ds ≡ true → is_utf8 ds ≡ true
digits_are_text ds d = is_utf8-from_IsUtf8 ds (digits_utf8 ds d)

pub negative_is_text : (field digits : List ℕ) (first : ℕ) → field ≡ first ∷ digits → first ≡ 45 → are_digits digits ≡ true → is_utf8 field ≡ true
negative_is_text field digits first f m d =
    rw (f, m) (is_utf8-from_IsUtf8 (45 ∷ digits) (IsUtf8-append (45 ∷ []) digits (IsUtf8-from_is_utf8 (45 ∷ []) minus_is_utf8) (digits_utf8 digits d)))

forever_is_utf8 : is_utf8 (codes "FOREVER") ≡ true
unfolding is_utf8 chars lib.Utf8.encode
forever_is_utf8 = refl

pub forever_is_text : (field : List ℕ) → same_bytes field (codes "FOREVER") ≡ true → is_utf8 field ≡ true
forever_is_text field h = rw (same_names field (codes "FOREVER") h) forever_is_utf8

pub ruleset plain_integers = (spells_positive, spells_negative, digits_are_text, negative_is_text)

-- NUMBERS OF FEW DIGITS

most : (i k : ℕ) → i ≤ k → 10 ^ i ≤ 10 ^ k
most i k h = pow-le-pow_right {n = 10} (omega arith) h

-- a number of fewer digits than some that are at most 18
pub below_most : (n i k : ℕ) → n < 10 ^ i → i < k → k ≤ 18 → n < 10 ^ 18
below_most n i k h l m = let p = most i 18 (omega (arith, l, m)) in omega (arith, h, p)

pub fits_word : (n i k : ℕ) → n < 10 ^ i → i ≤ k → k ≤ 18 → n < 2 ^ 63
fits_word n i k h l m = let p = most i 18 (omega (arith, l, m)) in omega (arith, h, p)

-- one digit more
pub one_digit : (n m i : ℕ) → n < 10 ^ i → m ≤ n * 10 + 9 → m < 10 ^ (i + 1)
one_digit n m i h e =
    let next : i + 1 ≡ suc i = omega arith in
    rw next (omega (arith, h, e, pow-succ' 10 i))

both_true : (a b : Bool) → a ≡ true → b ≡ true → (a && b) ≡ true
both_true a b p q = rw (p, q) refl

-- all digits were read
pub all_read : (ds : List ℕ) (i n : ℕ) → length ds ≤ i → 0 < length ds → length ds ≤ 18 → i ≤ length ds → digits_value_after 10 n (drop i ds) ≡ digits_value 10 ds → all_ascii_digits (drop i ds) ≡ all_ascii_digits ds → n < 10 ^ i
    → (are_digits ds ≡ true) × (digits_value 10 ds ≡ n) × (n < 2 ^ 63)
all_read ds i n e some few at v d h =
    let nothing = drop_of_length-le ds e in
    let digits : all_ascii_digits ds ≡ true = sym d ∙ ap all_ascii_digits nothing in
    let value : digits_value 10 ds ≡ n = sym v ∙ ap (digits_value_after 10 n) nothing in
    (both_true (nat_lt 0 (length ds)) (all_ascii_digits ds) (lt_true 0 (length ds) some) digits, value, fits_word n i (length ds) h at few)

pub ruleset few_digits = (below_most, fits_word, one_digit)
