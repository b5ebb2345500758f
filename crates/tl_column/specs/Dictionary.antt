-- The distinct texts of a column, and their codes.
use Rattle.std.specs.Prelude.{◌≡◌, ℕ, ◌<◌, ◌^◌, nat_eq, Bool, false, List, [], ◌∷◌, ◌++◌, length, map, slice_index_or, fold, Option, Some, None, option_map, suc, if◌then◌else◌}
use Rattle.std.specs.List.{list_any}
use Rattle.std.specs.Str.{bytes_eq}
use Rattle.std.specs.Borrow.{Bor}
use Rattle.std.specs.HashMap.{HashMap, get}
use Rattle.std.specs.Cmp.Lexicographic.{pointwise}
use Rattle.std.specs.Option.{IfSome}

-- the text of a code
abbrev pub text_of : List (List ℕ) → ℕ → List ℕ
text_of texts code = slice_index_or texts code []

-- whether the text is one of these
abbrev pub contains_text : List (List ℕ) → List ℕ → Bool
contains_text texts text = list_any (λ other. bytes_eq other text) texts

-- the first place of a text, none where it is none of these
abbrev pub code_in : List (List ℕ) → List ℕ → Option ℕ
code_in [] text = None
code_in (first ∷ rest) text =
    if bytes_eq first text then Some 0 else option_map suc (code_in rest text)

-- the texts, and this one behind them where it is new
abbrev pub with_text : List (List ℕ) → List ℕ → List (List ℕ)
with_text texts text = if contains_text texts text then texts else (texts ++ text ∷ [])

-- the distinct texts of some cells, in the order of their first appearance
abbrev pub dictionary_of : List (List ℕ) → List (List ℕ)
dictionary_of cells = fold with_text [] cells

-- no two of the texts are equal
abbrev pub AreDistinct : List (List ℕ) → Type 0
AreDistinct [] = Unit {0}
AreDistinct (text ∷ rest) = (contains_text rest text ≡ false) × AreDistinct rest

-- each is the code of a text
abbrev pub AreCodes : List (List ℕ) → List ℕ → Type 0
AreCodes texts [] = Unit {0}
AreCodes texts (code ∷ rest) = (code < length texts) × AreCodes texts rest

-- the texts of some codes
abbrev pub texts_of : List (List ℕ) → List ℕ → List (List ℕ)
texts_of texts codes = map (text_of texts) codes

-- each is the code of a text, the texts are the distinct ones of the cells with these codes, and
-- there are fewer than 2^32 of these
pub record IsCoded (texts : List (List ℕ)) (codes : List ℕ) : Type 0 where
  pub valid : AreCodes texts codes
  pub first : texts ≡ dictionary_of (texts_of texts codes)
  pub few : length codes < 2 ^ 32

-- the texts that are lent
abbrev pub lent_texts : List (Bor (List ℕ)) → List (List ℕ)
lent_texts cells = map (λ cell. cell.now) cells

-- each text that is known has its code
abbrev pub KnowsCodes : {S : Type 0} → List (List ℕ) → HashMap (Bor (List ℕ)) ℕ S → Type 0
KnowsCodes texts known =
    (text : Bor (List ℕ))
    → IfSome (get (λ x y. pointwise nat_eq x.now y.now) known text)
    (λ code. (code < length texts) × (text_of texts code ≡ text.now))
