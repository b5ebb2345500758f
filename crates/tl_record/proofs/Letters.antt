-- Names and texts, seen as what tests say of their bytes.
use Rattle.std.proofs.Common.{◌≡◌, ℕ, zero, suc, ◌<◌, ◌≤◌, Bool, true, false, ◌&&◌, not, nat_le, List, [], ◌∷◌, length, take, get_or, refl, arith, inl, inr}
use Rattle.std.specs.Str.{IsAscii, IsUtf8, is_utf8}
use Rattle.std.specs.List.{list_all, list_any}
use Rattle.std.proofs.lemmas.Str.{IsUtf8-from_is_utf8, is_utf8-from_IsUtf8, IsUtf8-from_ascii}
use Rattle.std.proofs.lemmas.Bool.{cases_lt}
use Rattle.std.proofs.lemmas.Bool.Decides.{nat_tests}
use Rattle.std.proofs.lemmas.List.{get_or-take, get_or_past, length-take}
use Rattle.tl_types.specs.declared.schemas.Column.{Column}
use Rattle.tl_types.specs.Facts.{names_of}
use Rattle.tl_types.specs.Names.{begins_word, continues_word, is_word, is_name, is_keyword, same_bytes}
use Rattle.tl_record.specs.Reading.{is_new_name}

pub utf8_yes : (bytes : List ℕ) → IsUtf8 bytes → is_utf8 bytes ≡ true
utf8_yes bytes h = is_utf8-from_IsUtf8 bytes h

pub utf8_no : (bytes : List ℕ) → ¬ (IsUtf8 bytes) → is_utf8 bytes ≡ false
utf8_no bytes h = by_test (is_utf8 bytes) refl where
  by_test : (t : Bool) → is_utf8 bytes ≡ t → is_utf8 bytes ≡ false
  by_test true e = absurd (h (IsUtf8-from_is_utf8 bytes e))
  by_test false e = e

pub both : (a b : Bool) → (a && b) ≡ true → (a ≡ true) × (b ≡ true)
both true b e = (refl, e)
both false b e = absurd (cc)

continues_small : (b : ℕ) → continues_word b ≡ true → b < 128
continues_small b e = grind (arith, nat_tests)

begins_small : (b : ℕ) → begins_word b ≡ true → b < 128
begins_small b e = grind (arith, nat_tests)

all_small : (bytes : List ℕ) → list_all continues_word bytes ≡ true → (i : ℕ) → get_or bytes i 0 < 128
all_small [] e i = omega arith
all_small (b ∷ bytes) e zero = continues_small b (both (continues_word b) (list_all continues_word bytes) e).0
all_small (b ∷ bytes) e (suc i) = all_small bytes (both (continues_word b) (list_all continues_word bytes) e).1 i

pub word_small : (bytes : List ℕ) → is_word bytes ≡ true → (i : ℕ) → get_or bytes i 0 < 128
word_small [] e i = absurd (cc)
word_small (b ∷ bytes) e zero = begins_small b (both (begins_word b) (list_all continues_word bytes) e).0
word_small (b ∷ bytes) e (suc i) = all_small bytes (both (begins_word b) (list_all continues_word bytes) e).1 i

-- what the test of a new name says
pub record NewName (columns : List Column) (bytes : List ℕ) : Type 0 where
  pub word : is_word bytes ≡ true
  pub short : length bytes ≤ 64
  pub free : is_keyword bytes ≡ false
  pub new : list_any (λ c. same_bytes c bytes) (names_of columns) ≡ false
  pub name : is_name bytes ≡ true

pub flipped : (t : Bool) → not t ≡ true → t ≡ false
flipped true e = absurd (cc)
flipped false e = refl

pub is_new : (columns : List Column) (name : List ℕ) → is_new_name columns name ≡ true → NewName columns name
unfolding is_new_name
is_new columns name e =
    let a = both (is_name name) (not (list_any (λ c. same_bytes c name) (names_of columns))) e in
    let b = both (is_word name && nat_le (length name) 64) (not (is_keyword name)) a.0 in
    let d = both (is_word name) (nat_le (length name) 64) b.0 in
    let h = d.1 in
    record {
      word = d.0;
      short = grind (arith, nat_tests);
      free = flipped (is_keyword name) b.1;
      new = flipped (list_any (λ c. same_bytes c name) (names_of columns)) a.1;
      name = a.0;
    }

pub new_name_is_text : (columns : List Column) (name : List ℕ) → ¬ (IsUtf8 name)
    → is_new_name columns name ≡ false
new_name_is_text columns name h = by_test (is_new_name columns name) refl where
  by_test : (t : Bool) → is_new_name columns name ≡ t → is_new_name columns name ≡ false
  by_test true e = absurd (h (IsUtf8-from_ascii name (word_small name (is_new columns name e).word)))
  by_test false e = e

pub new_name_short : (columns : List Column) (name : List ℕ) → is_new_name columns name ≡ true
    → length name ≤ 65535
new_name_short columns name e = let s = (is_new columns name e).short in omega (arith, s)

-- a new name is a text, and short
pub ruleset new_names = (new_name_is_text, new_name_short)

-- so many of bytes that are ASCII up to a place behind them
pub few_ascii : (n : ℕ) (bytes : List ℕ) → n ≤ 8 → ((k : ℕ) → k < 8 → get_or bytes k 0 < 128)
    → IsAscii (take n bytes)
few_ascii n bytes few h k =
    elim (cases_lt k n) [
      | inl inside ↦ rw (get_or-take n bytes k 0 inside) (h k (omega arith))
      | inr outside ↦
          let past : length (take n bytes) ≤ k = omega (arith, length-take n bytes) in
          rw (get_or_past (take n bytes) k 0 past) (omega arith)
    ]
