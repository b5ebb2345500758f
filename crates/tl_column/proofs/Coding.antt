-- Distinct texts, and the codes of cells.
use Rattle.std.proofs.Common.{◌≡◌, ℕ, ◌+◌, ◌<◌, ◌≤◌, ◌^◌, zero, suc, Bool, true, false, ◌||◌, List, [], ◌∷◌, ◌++◌, length, get_or, fold, Option, Some, None, option_map, MatchOption, IfSome, IsNone, if◌then◌else◌, refl, sym, ap, ◌∙◌, subst, arith, length-append}
use Rattle.std.specs.Str.{bytes_eq}
use Rattle.std.proofs.lemmas.List.{get_or_append_left, map-append, length-map}
use Rattle.std.proofs.lemmas.List.Folds.{list_any-append}
use Rattle.std.proofs.lemmas.List.Sums.{fold-append}
use Rattle.std.proofs.lemmas.Slice.Eq.{bytes_eq-Decides}
use Rattle.tl_column.specs.Runs.{LacksText, times}
use Rattle.tl_column.proofs.RunFacts.{lacks_none}
use Rattle.tl_column.specs.Dictionary.{text_of, contains_text, code_in, with_text, dictionary_of, AreDistinct, AreCodes, texts_of, IsCoded}

or_true : (b : Bool) → (b || true) ≡ true
or_true true = refl
or_true false = refl

or_no : (b : Bool) → (b || false) ≡ b
or_no true = refl
or_no false = refl

or_false : (a b : Bool) → (a || b) ≡ false → (a ≡ false) × (b ≡ false)
or_false true b h = cc
or_false false b h = (refl, h)

or_assoc : (a b c : Bool) → ((a || b) || c) ≡ (a || (b || c))
or_assoc true b c = refl
or_assoc false b c = refl

same_text : (x : List ℕ) → bytes_eq x x ≡ true
same_text x = (bytes_eq-Decides x x).1 refl

differs_at : (b : Bool) (x y : List ℕ) → bytes_eq y x ≡ b → bytes_eq x y ≡ false → b ≡ false
differs_at false x y e h = refl
differs_at true x y e h =
    let bad : true ≡ false = sym ((bytes_eq-Decides x y).1 (sym ((bytes_eq-Decides y x).0 e))) ∙ h in cc

differs_back : (x y : List ℕ) → bytes_eq x y ≡ false → bytes_eq y x ≡ false
differs_back x y h = differs_at (bytes_eq y x) x y refl h

-- what a look-up says, case by case
abbrev pub IsFound : List (List ℕ) → List ℕ → Option ℕ → Type 0
IsFound texts text found =
    MatchOption found (contains_text texts text ≡ false) (λ code. (code < length texts) × (text_of texts code ≡ text) × (contains_text texts text ≡ true))

found_at : (first : List ℕ) (rest : List (List ℕ)) (text : List ℕ) (b : Bool) → bytes_eq first text ≡ b → (found : Option ℕ) → IsFound rest text found → MatchOption (if b then Some 0 else option_map suc found) ((b || contains_text rest text) ≡ false) (λ code. (code < length (first ∷ rest)) × (text_of (first ∷ rest) code ≡ text) × ((b || contains_text rest text) ≡ true))
found_at first rest text true e found h = (omega arith, (bytes_eq-Decides first text).0 e, refl)
found_at first rest text false e None h = h
found_at first rest text false e (Some code) h = (omega (arith, h.0), h.1, h.2)

pub code_found : (texts : List (List ℕ)) (text : List ℕ) → IsFound texts text (code_in texts text)
code_found [] text = refl
code_found (first ∷ rest) text =
    found_at first rest text (bytes_eq first text) refl (code_in rest text) (code_found rest text)

pub found_some : (texts : List (List ℕ)) (text : List ℕ) (code : ℕ) → Some code ≡ code_in texts text → (code < length texts) × (text_of texts code ≡ text) × (contains_text texts text ≡ true)
found_some texts text code e = subst (λ found. IsFound texts text found) (sym e) (code_found texts text)

pub found_none : (texts : List (List ℕ)) (text : List ℕ) → None ≡ code_in texts text → contains_text texts text ≡ false
found_none texts text e = subst (λ found. IsFound texts text found) (sym e) (code_found texts text)

found_nothing : (texts : List (List ℕ)) (text : List ℕ) (codes : List ℕ) (found : Option ℕ) → found ≡ code_in texts text → ((code : ℕ) → code < length texts → 0 < times code codes) → LacksText texts text codes → None ≡ found
found_nothing texts text codes None e all lacks = refl
found_nothing texts text codes (Some code) e all lacks =
    let is = found_some texts text code e in
    absurd (lacks_none texts text codes code lacks (all code is.0) is.1)

-- a text that none of the runs has, where each code is in them
pub nothing_found : (texts : List (List ℕ)) (text : List ℕ) (codes : List ℕ) → ((code : ℕ) → code < length texts → 0 < times code codes) → LacksText texts text codes → None ≡ code_in texts text
nothing_found texts text codes all lacks = found_nothing texts text codes (code_in texts text) refl all lacks

pub text_found : (texts : List (List ℕ)) (text : List ℕ) (found : Option ℕ) → found ≡ code_in texts text → IfSome found (λ code. text_of texts code ≡ text)
text_found texts text None e = tt
text_found texts text (Some code) e = (found_some texts text code e).1

pub found_exactly : (texts : List (List ℕ)) (text : List ℕ) (found : Option ℕ) → found ≡ code_in texts text → (IsNone found → contains_text texts text ≡ false) × (contains_text texts text ≡ false → IsNone found)
found_exactly texts text None e = (λ none. found_none texts text e, λ lacks. refl)
found_exactly texts text (Some code) e =
    (λ none. cc, λ lacks. let bad : true ≡ false = sym (found_some texts text code e).2 ∙ lacks in cc)

pub contains_at : (texts : List (List ℕ)) (code : ℕ) → code < length texts → contains_text texts (text_of texts code) ≡ true
contains_at [] code h = absurd (omega arith)
contains_at (first ∷ rest) zero h = ap (λ b. b || contains_text rest first) (same_text first)
contains_at (first ∷ rest) (suc code) h =
    ap (λ b. bytes_eq first (text_of rest code) || b) (contains_at rest code (omega arith))
    ∙ or_true (bytes_eq first (text_of rest code))

apart_at : (b : Bool) (first text : List ℕ) (rest : List (List ℕ)) → bytes_eq first text ≡ b → contains_text rest first ≡ false → contains_text rest text ≡ true → b ≡ false
apart_at false first text rest e h k = refl
apart_at true first text rest e h k =
    let bad : false ≡ true = sym h ∙ ap (contains_text rest) ((bytes_eq-Decides first text).0 e) ∙ k in cc

-- among distinct texts a text has one code
pub one_code : (texts : List (List ℕ)) (text : List ℕ) (code : ℕ) → AreDistinct texts → code < length texts → text_of texts code ≡ text → code_in texts text ≡ Some code
one_code [] text code h l is = absurd (omega arith)
one_code (first ∷ rest) text zero h l is =
    let found : bytes_eq first text ≡ true = (bytes_eq-Decides first text).1 is in
    ap (λ b. if b then Some 0 else option_map suc (code_in rest text)) found
one_code (first ∷ rest) text (suc code) h l is =
    let there : contains_text rest text ≡ true = ap (contains_text rest) (sym is) ∙ contains_at rest code (omega arith) in
    let apart : bytes_eq first text ≡ false = apart_at (bytes_eq first text) first text rest refl h.0 there in
    ap (λ b. if b then Some 0 else option_map suc (code_in rest text)) apart
    ∙ ap (option_map suc) (one_code rest text code h.1 (omega arith) is)

-- a new text behind distinct ones
pub distinct_more : (texts : List (List ℕ)) (text : List ℕ) → AreDistinct texts → contains_text texts text ≡ false → AreDistinct (texts ++ text ∷ [])
distinct_more [] text h new = (refl, tt)
distinct_more (first ∷ rest) text h new =
    let both = or_false (bytes_eq first text) (contains_text rest text) new in (
      list_any-append (λ other. bytes_eq other first) rest (text ∷ [])
          ∙ ap (λ b. b || (bytes_eq text first || false)) h.0
          ∙ ap (λ b. false || (b || false)) (differs_back first text both.0),
      distinct_more rest text h.1 both.1,
    )

with_at : (b : Bool) (texts : List (List ℕ)) (text : List ℕ) → contains_text texts text ≡ b → AreDistinct texts → AreDistinct (if b then texts else (texts ++ text ∷ []))
with_at true texts text e h = h
with_at false texts text e h = distinct_more texts text h e

fold_distinct : (cells texts : List (List ℕ)) → AreDistinct texts → AreDistinct (fold with_text texts cells)
fold_distinct [] texts h = h
fold_distinct (cell ∷ cells) texts h =
    fold_distinct cells (with_text texts cell) (with_at (contains_text texts cell) texts cell refl h)

pub dictionary_distinct : (cells : List (List ℕ)) → AreDistinct (dictionary_of cells)
dictionary_distinct cells = fold_distinct cells [] tt

-- more cells keep the texts of the codes so far
length_at : (b : Bool) (texts : List (List ℕ)) (text : List ℕ) → (length texts ≤ length (if b then texts else (texts ++ text ∷ []))) × (length (if b then texts else (texts ++ text ∷ [])) ≤ length texts + 1)
length_at true texts text = (omega arith, omega arith)
length_at false texts text =
    (omega (arith, length-append texts (text ∷ [])), omega (arith, length-append texts (text ∷ [])))

pub fold_longer : (cells texts : List (List ℕ)) → length texts ≤ length (fold with_text texts cells)
fold_longer [] texts = omega arith
fold_longer (cell ∷ cells) texts =
    omega (arith, (length_at (contains_text texts cell) texts cell).0, fold_longer cells (with_text texts cell))

pub fold_short : (cells texts : List (List ℕ)) → length (fold with_text texts cells) ≤ length texts + length cells
fold_short [] texts = omega arith
fold_short (cell ∷ cells) texts =
    omega (arith, (length_at (contains_text texts cell) texts cell).1, fold_short cells (with_text texts cell))

kept_at : (b : Bool) (texts : List (List ℕ)) (text : List ℕ) (code : ℕ) → code < length texts → text_of (if b then texts else (texts ++ text ∷ [])) code ≡ text_of texts code
kept_at true texts text code h = refl
kept_at false texts text code h = get_or_append_left texts (text ∷ []) [] code h

pub fold_kept : (cells texts : List (List ℕ)) (code : ℕ) → code < length texts → text_of (fold with_text texts cells) code ≡ text_of texts code
fold_kept [] texts code h = refl
fold_kept (cell ∷ cells) texts code h =
    fold_kept cells (with_text texts cell) code (omega (arith, (length_at (contains_text texts cell) texts cell).0))
    ∙ kept_at (contains_text texts cell) texts cell code h

pub cells_kept : (codes : List ℕ) (cells texts : List (List ℕ)) → AreCodes texts codes → texts_of (fold with_text texts cells) codes ≡ texts_of texts codes
cells_kept [] cells texts h = refl
cells_kept (code ∷ codes) cells texts h =
    ap (λ t. t ∷ texts_of (fold with_text texts cells) codes) (fold_kept cells texts code h.0)
    ∙ ap (λ ts. text_of texts code ∷ ts) (cells_kept codes cells texts h.1)

pub codes_kept : (codes : List ℕ) (cells texts : List (List ℕ)) → AreCodes texts codes → AreCodes (fold with_text texts cells) codes
codes_kept [] cells texts h = tt
codes_kept (code ∷ codes) cells texts h =
    (omega (arith, h.0, fold_longer cells texts), codes_kept codes cells texts h.1)

pub codes_append : (texts : List (List ℕ)) (codes more : List ℕ) → AreCodes texts codes → AreCodes texts more → AreCodes texts (codes ++ more)
codes_append texts [] more h k = k
codes_append texts (code ∷ codes) more h k = (h.0, codes_append texts codes more h.1 k)

pub code_at : (texts : List (List ℕ)) (codes : List ℕ) (k d : ℕ) → AreCodes texts codes → k < length codes → get_or codes k d < length texts
code_at texts [] k d h l = absurd (omega arith)
code_at texts (code ∷ codes) zero d h l = h.0
code_at texts (code ∷ codes) (suc k) d h l = code_at texts codes k d h.1 (omega arith)

-- the texts of the dictionary are those of the cells
contains_with : (b c : Bool) (texts : List (List ℕ)) (cell text : List ℕ) → contains_text texts cell ≡ b → bytes_eq cell text ≡ c → contains_text (if b then texts else (texts ++ cell ∷ [])) text ≡ (contains_text texts text || c)
contains_with true true texts cell text e f =
    ap (contains_text texts) (sym ((bytes_eq-Decides cell text).0 f)) ∙ e ∙ sym (or_true (contains_text texts text))
contains_with true false texts cell text e f = sym (or_no (contains_text texts text))
contains_with false c texts cell text e f =
    list_any-append (λ other. bytes_eq other text) texts (cell ∷ [])
    ∙ ap (λ b. contains_text texts text || (b || false)) f
    ∙ ap (λ b. contains_text texts text || b) (or_no c)

fold_contains : (cells texts : List (List ℕ)) (text : List ℕ) → contains_text (fold with_text texts cells) text ≡ (contains_text texts text || contains_text cells text)
fold_contains [] texts text = sym (or_no (contains_text texts text))
fold_contains (cell ∷ cells) texts text =
    fold_contains cells (with_text texts cell) text
    ∙ ap (λ b. b || contains_text cells text) (contains_with (contains_text texts cell) (bytes_eq cell text) texts cell text refl refl)
    ∙ or_assoc (contains_text texts text) (bytes_eq cell text) (contains_text cells text)

pub dictionary_contains : (cells : List (List ℕ)) (text : List ℕ) → contains_text (dictionary_of cells) text ≡ contains_text cells text
dictionary_contains cells text = fold_contains cells [] text

-- a column with more cells
module _ (old new cells : List (List ℕ)) (codes more : List ℕ) (xs : List (List ℕ)) (grown : new ≡ fold with_text old cells) (is : texts_of old codes ≡ xs) (added : texts_of new more ≡ cells) where
  pub pushed_cells : AreCodes old codes → texts_of new (codes ++ more) ≡ xs ++ cells
  pushed_cells valid =
      map-append (text_of new) codes more
      ∙ ap (λ ts. ts ++ texts_of new more) (ap (λ ts. texts_of ts codes) grown ∙ cells_kept codes cells old valid ∙ is)
      ∙ ap (λ ts. xs ++ ts) added

  pub pushed_codes : AreCodes old codes → AreCodes new more → AreCodes new (codes ++ more)
  pushed_codes valid fresh =
      codes_append new codes more (subst (λ ts. AreCodes ts codes) (sym grown) (codes_kept codes cells old valid)) fresh

  pub pushed_coded : IsCoded old codes → AreCodes new more → length xs + length cells < 2 ^ 32 → IsCoded new (codes ++ more)
  pushed_coded coded fresh few = record {
    valid = pushed_codes coded.valid fresh;
    first =
        grown
        ∙ ap (λ ts. fold with_text ts cells) (coded.first ∙ ap (λ ts. dictionary_of ts) is)
        ∙ sym (fold-append with_text [] xs cells)
        ∙ ap (λ ts. dictionary_of ts) (sym (pushed_cells coded.valid));
    few =
        omega (arith, few, length-append codes more, length-map codes (text_of old), length-map more (text_of new), ap length is, ap length added);
  }
