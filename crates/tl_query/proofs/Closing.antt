-- How one byte of a text constant goes on, and that words are ASCII.
use Rattle.std.proofs.Common.{◌≡◌, ℕ, ◌+◌, ◌<◌, ◌≤◌, Bool, true, false, not, cond, ◌==◌, List, [], ◌∷◌, length, drop, take, get_or, Option, Some, None, refl, ◌∙◌, ap, add-one, arith, inl, inr, lit<, length-take}
use Rattle.std.proofs.Math.Seq.{drop-cons}
use Rattle.std.specs.List.{prefix_len}
use Rattle.std.proofs.lemmas.List.Sums.{prefix_len_passes}
use Rattle.std.proofs.lemmas.List.{get_or-take, get_or_past, drop_all}
use Rattle.std.proofs.lemmas.Bool.{eq-eqb, cases_lt}
use Rattle.std.proofs.lemmas.Bool.Decides.{nat_tests}
use Rattle.tl_types.specs.Names.{continues_word}
use Rattle.tl_query.specs.Scanning.{closing_len, one_more}

-- so many more, where there is a number
abbrev pub further : ℕ → Option ℕ → Option ℕ
further n None = None
further n (Some m) = Some (m + n)

further_one : (i : ℕ) (o : Option ℕ) → further i (one_more o) ≡ further (i + 1) o
further_one i None = refl
further_one i (Some m) = let e : (m + 1) + i ≡ m + (i + 1) = omega arith in ap (λ n. Some n) e

-- a quote
pub closing_quote : (i : ℕ) (text_constant : Bool) (b : ℕ) (bytes : List ℕ) → (b == 39) ≡ true → further i (closing_len text_constant (b ∷ bytes)) ≡ further (i + 1) (closing_len (not text_constant) bytes)
unfolding closing_len
closing_quote i true b bytes e = ap (λ t. further i (cond t (one_more (closing_len false bytes)) (Some 0))) e ∙ further_one i (closing_len false bytes)
closing_quote i false b bytes e = ap (λ t. further i (cond t (one_more (closing_len true bytes)) (one_more (closing_len false bytes)))) e ∙ further_one i (closing_len true bytes)

-- another byte inside
pub closing_other : (i b : ℕ) (bytes : List ℕ) → (b == 39) ≡ false → further i (closing_len false (b ∷ bytes)) ≡ further (i + 1) (closing_len false bytes)
unfolding closing_len
closing_other i b bytes e = ap (λ t. further i (cond t (one_more (closing_len true bytes)) (one_more (closing_len false bytes)))) e ∙ further_one i (closing_len false bytes)

-- another byte after a quote
pub closing_done : (i b : ℕ) (bytes : List ℕ) → (b == 39) ≡ false → further i (closing_len true (b ∷ bytes)) ≡ Some i
unfolding closing_len
closing_done i b bytes e = ap (λ t. further i (cond t (one_more (closing_len false bytes)) (Some 0))) e ∙ ap (λ n. Some n) (omega arith)

is_39 : (b : ℕ) → b ≡ 39 → (b == 39) ≡ true
is_39 b e = eq-eqb b 39 e

pub not_39 : (b : ℕ) → (b ≡ 39 → ⊥) → (b == 39) ≡ false
not_39 b h = grind (arith, nat_tests)

drop_is : (bs : List ℕ) (i : ℕ) → i < length bs → drop i bs ≡ get_or bs i 0 ∷ drop (i + 1) bs
drop_is bs i h = rw (add-one) (drop-cons bs i 0 h)

pub quote_turn : (bs : List ℕ) (i : ℕ) (text_constant : Bool) → i < length bs → get_or bs i 0 ≡ 39 → further i (closing_len text_constant (drop i bs)) ≡ further (i + 1) (closing_len (not text_constant) (drop (i + 1) bs))
quote_turn bs i text_constant h e = ap (λ x. further i (closing_len text_constant x)) (drop_is bs i h) ∙ closing_quote i text_constant (get_or bs i 0) (drop (i + 1) bs) (is_39 (get_or bs i 0) e)

pub other_turn : (bs : List ℕ) (i : ℕ) (text_constant : Bool) → i < length bs → (get_or bs i 0 ≡ 39 → ⊥) → text_constant ≡ false → further i (closing_len text_constant (drop i bs)) ≡ further (i + 1) (closing_len text_constant (drop (i + 1) bs))
other_turn bs i true h e q = absurd (cc)
other_turn bs i false h e q = ap (λ x. further i (closing_len false x)) (drop_is bs i h) ∙ closing_other i (get_or bs i 0) (drop (i + 1) bs) (not_39 (get_or bs i 0) e)

pub done_turn : (bs : List ℕ) (i : ℕ) (text_constant : Bool) → i < length bs → (get_or bs i 0 ≡ 39 → ⊥) → text_constant ≡ true → further i (closing_len text_constant (drop i bs)) ≡ Some i
done_turn bs i false h e q = absurd (cc)
done_turn bs i true h e q = ap (λ x. further i (closing_len true x)) (drop_is bs i h) ∙ closing_done i (get_or bs i 0) (drop (i + 1) bs) (not_39 (get_or bs i 0) e)

pub end_turn : (bs : List ℕ) (i : ℕ) (text_constant : Bool) → length bs ≤ i → further i (closing_len text_constant (drop i bs)) ≡ further i (closing_len text_constant [])
end_turn bs i text_constant h = ap (λ x. further i (closing_len text_constant x)) (drop_all i bs h)

pub closing_quoted : (i : ℕ) (text_constant : Bool) → text_constant ≡ true → further i (closing_len text_constant []) ≡ Some i
unfolding closing_len
closing_quoted i true q = ap (λ n. Some n) (omega arith)
closing_quoted i false q = absurd (cc)

pub closing_open : (i : ℕ) (text_constant : Bool) → text_constant ≡ false → further i (closing_len text_constant []) ≡ None
unfolding closing_len
closing_open i true q = absurd (cc)
closing_open i false q = refl

-- bytes of words are ASCII
pub word_byte : (b : ℕ) → continues_word b ≡ true → b < 128
word_byte b h = grind (arith, nat_tests)

pub word_ascii : (bytes : List ℕ) (i : ℕ) → get_or (take (prefix_len continues_word bytes) bytes) i 0 < 128
word_ascii bytes i = elim (cases_lt i (prefix_len continues_word bytes)) as (λ _. get_or (take (prefix_len continues_word bytes) bytes) i 0 < 128) [
  | inl h ↦ rw (get_or-take (prefix_len continues_word bytes) bytes i 0 h) (word_byte (get_or bytes i 0) (prefix_len_passes continues_word bytes i 0 h))
  | inr h ↦ let n : length (take (prefix_len continues_word bytes) bytes) ≤ i = omega (arith, length-take (prefix_len continues_word bytes) bytes) in
      rw (get_or_past (take (prefix_len continues_word bytes) bytes) i 0 n) (lit< tt)
]
