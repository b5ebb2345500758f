-- Words of masks over a column.
use Rattle.std.proofs.Common.{◌≡◌, ℕ, ◌-◌, ◌*◌, ◌%◌, ◌<◌, ◌≤◌, ◌==◌, zero, suc, min, Bool, true, false, List, [], ◌∷◌, length, get_or, map, take, drop, refl, sym, ap, ◌∙◌, arith, Option, Some, None, if◌then◌else◌, subst}
use Rattle.std.specs.Prelude.{ℤ, not}
use Rattle.std.specs.Option.{unwrap_or}
use Rattle.std.proofs.lemmas.Bool.{eq-eqb, ne_eqb}
use Rattle.std.specs.Simd.Lanes.{mask_l}
use Rattle.std.proofs.lemmas.List.{take_min}
use Rattle.std.proofs.lemmas.Slice.Eq.{bytes_eq-Decides}
use Rattle.tl_types.specs.Names.{same_bytes}
use Rattle.tl_lanes.specs.declared.masks.LaneCmp.{LaneCmp}
use Rattle.tl_lanes.specs.Masks.{passes, agrees, word_of}
use Rattle.tl_lanes.proofs.LaneMasks.{word_of_values, map_same}
use Rattle.tl_column.specs.Dictionary.{text_of, contains_text, code_in, dictionary_of, AreDistinct, AreCodes, texts_of, IsCoded}
use Rattle.tl_column.specs.Masks.{code_for, has_code, is_text}
use Rattle.tl_column.proofs.Coding.{one_code, contains_at, found_some, found_none, dictionary_distinct, dictionary_contains}

-- ITEMS OF A WORD

take_front : {X : Type 0} (n m : ℕ) (xs : List X) → n ≤ m → take n (take m xs) ≡ take n xs
take_front zero m xs h = refl
take_front (suc n) zero xs h = absurd (omega arith)
take_front (suc n) (suc m) [] h = refl
take_front (suc n) (suc m) (x ∷ xs) h = ap (λ t. x ∷ t) (take_front n m xs (omega arith))

-- the first 64 items, or all, of what stands in one piece from a word's first item on
pub word_items : {X : Type 0} (xs from word : List X) (i at n : ℕ) → at ≡ 64 * i → from ≡ take (1024 - at % 1024) (drop at xs) → n ≡ min 64 (length from) → word ≡ take n from → word ≡ take 64 (drop (64 * i) xs)
word_items xs from word i at n place is most cut =
    let wide : 64 ≤ 1024 - at % 1024 = omega (arith, place) in
    cut
    ∙ ap (λ k. take k from) most
    ∙ take_min 64 from
    ∙ ap (take 64) is
    ∙ take_front 64 (1024 - at % 1024) (drop at xs) wide
    ∙ ap (λ k. take 64 (drop k xs)) place

-- the word of the values that pass
pub passing_word : (cmp own : LaneCmp) (bound given : ℤ) (xs items : List ℤ) (i word : ℕ) → own ≡ cmp → given ≡ bound → items ≡ take 64 (drop (64 * i) xs) → word ≡ mask_l (map (λ x. passes own x given) items) → word ≡ word_of (map (λ x. passes cmp x bound) xs) i
passing_word cmp own bound given xs items i word same same_bound is e =
    e
    ∙ ap (λ t. mask_l (map (λ x. passes own x given) t)) is
    ∙ sym (word_of_values (λ x. passes own x given) xs i 64 refl)
    ∙ ap (λ o. word_of (map (λ x. passes o x given) xs) i) same
    ∙ ap (λ b. word_of (map (λ x. passes cmp x b) xs) i) same_bound

-- CODES OF CELLS

own_code : (texts : List (List ℕ)) (code : ℕ) → AreDistinct texts → code < length texts → code_for texts (text_of texts code) ≡ code
own_code texts code apart there =
    ap (λ o. unwrap_or o (length texts)) (one_code texts (text_of texts code) code apart there refl)

-- a code that is not that of a text has another text
other_code : (texts : List (List ℕ)) (text : List ℕ) (code : ℕ) (found : Option ℕ) → found ≡ code_in texts text → code < length texts → same_bytes (text_of texts code) text ≡ false → code ≡ unwrap_or found (length texts) → ⊥
other_code texts text code None is there other same = omega (arith, there, same)
other_code texts text code (Some k) is there other same =
    let text_is : text_of texts code ≡ text = ap (text_of texts) same ∙ (found_some texts text k is).1 in
    let bad : true ≡ false = sym ((bytes_eq-Decides (text_of texts code) text).1 text_is) ∙ other in cc

-- a text is that of a code exactly where the code is its own
pub same_code : (texts : List (List ℕ)) (text : List ℕ) (code : ℕ) → AreDistinct texts → code < length texts → same_bytes (text_of texts code) text ≡ (code == code_for texts text)
same_code texts text code apart there = by_text (same_bytes (text_of texts code) text) refl where
  by_text : (b : Bool) → same_bytes (text_of texts code) text ≡ b → b ≡ (code == code_for texts text)
  by_text true e =
      let is : text_of texts code ≡ text = (bytes_eq-Decides (text_of texts code) text).0 e in
      sym (eq-eqb code (code_for texts text) (sym (ap (code_for texts) (sym is) ∙ own_code texts code apart there)))
  by_text false e =
      sym (ne_eqb code (code_for texts text) (λ same. other_code texts text code (code_in texts text) refl there e same))

-- a column of codes and its cells
module _ (texts : List (List ℕ)) (apart : AreDistinct texts) where
  -- the codes of the cells
  pub codes_of_cells : (codes : List ℕ) → AreCodes texts codes → map (code_for texts) (texts_of texts codes) ≡ codes
  codes_of_cells [] valid = refl
  codes_of_cells (code ∷ codes) valid =
      ap (λ c. c ∷ map (code_for texts) (texts_of texts codes)) (own_code texts code apart valid.0)
      ∙ ap (λ t. code ∷ t) (codes_of_cells codes valid.1)

  -- a test of the codes
  pub codes_pass : (equal : Bool) (code : ℕ) (codes : List ℕ) → AreCodes texts codes → map (has_code equal texts code) (texts_of texts codes) ≡ map (λ x. agrees equal x code) codes
  codes_pass equal code [] valid = refl
  codes_pass equal code (own ∷ codes) valid =
      ap (λ c. agrees equal c code ∷ map (has_code equal texts code) (texts_of texts codes)) (own_code texts own apart valid.0)
      ∙ ap (λ t. agrees equal own code ∷ t) (codes_pass equal code codes valid.1)

  -- a test of the texts
  pub texts_pass : (equal : Bool) (text : List ℕ) (codes : List ℕ) → AreCodes texts codes → map (is_text equal text) (texts_of texts codes) ≡ map (λ x. agrees equal x (code_for texts text)) codes
  texts_pass equal text [] valid = refl
  texts_pass equal text (own ∷ codes) valid =
      ap (λ b. (if equal then b else not b) ∷ map (is_text equal text) (texts_of texts codes)) (same_code texts text own apart valid.0)
      ∙ ap (λ t. agrees equal own (code_for texts text) ∷ t) (texts_pass equal text codes valid.1)

-- a column of texts
module _ (texts : List (List ℕ)) (codes : List ℕ) (cells : List (List ℕ)) (coded : IsCoded texts codes) (is : texts_of texts codes ≡ cells) where
  pub own_texts : texts ≡ dictionary_of cells
  own_texts = coded.first ∙ ap (λ t. dictionary_of t) is

  apart : AreDistinct texts
  apart = subst (λ t. AreDistinct t) (sym own_texts) (dictionary_distinct cells)

  pub code_list : map (code_for (dictionary_of cells)) cells ≡ codes
  code_list =
      ap (λ d. map (code_for d) cells) (sym own_texts)
      ∙ ap (λ t. map (code_for texts) t) (sym is)
      ∙ codes_of_cells texts apart codes coded.valid

  -- the word of the codes that pass
  pub code_word : (equal : Bool) (code i word : ℕ) (items : List ℕ) → items ≡ take 64 (drop (64 * i) codes) → word ≡ mask_l (map (λ x. agrees equal x code) items) → word ≡ word_of (map (has_code equal (dictionary_of cells) code) cells) i
  code_word equal code i word items part e =
      e
      ∙ ap (λ t. mask_l (map (λ x. agrees equal x code) t)) part
      ∙ sym (word_of_values (λ x. agrees equal x code) codes i 64 refl)
      ∙ ap (λ t. word_of t i) (sym (codes_pass texts apart equal code codes coded.valid))
      ∙ ap (λ t. word_of (map (has_code equal texts code) t) i) is
      ∙ ap (λ d. word_of (map (has_code equal d code) cells) i) own_texts

  -- the word of the texts that pass
  pub text_word : (equal : Bool) (text : List ℕ) (code i word : ℕ) (items : List ℕ) → items ≡ take 64 (drop (64 * i) codes) → code ≡ code_for (dictionary_of cells) text → word ≡ mask_l (map (λ x. agrees equal x code) items) → word ≡ word_of (map (is_text equal text) cells) i
  text_word equal text code i word items part own e =
      e
      ∙ ap (λ t. mask_l (map (λ x. agrees equal x code) t)) part
      ∙ sym (word_of_values (λ x. agrees equal x code) codes i 64 refl)
      ∙ ap (λ k. word_of (map (λ x. agrees equal x k) codes) i) (own ∙ ap (λ d. code_for d text) (sym own_texts))
      ∙ ap (λ t. word_of t i) (sym (texts_pass texts apart equal text codes coded.valid))
      ∙ ap (λ t. word_of (map (is_text equal text) t) i) is

-- a text of a dictionary is another exactly where its code is that of the other
cell_code : (texts : List (List ℕ)) (cell text : List ℕ) (equal : Bool) → AreDistinct texts → contains_text texts cell ≡ true → has_code equal texts (code_for texts text) cell ≡ is_text equal text cell
cell_code texts cell text equal apart there = by_code (code_in texts cell) refl where
  by_code : (found : Option ℕ) → found ≡ code_in texts cell → has_code equal texts (code_for texts text) cell ≡ is_text equal text cell
  by_code None is = absurd (let none = found_none texts cell is in cc)
  by_code (Some code) is =
      let found = found_some texts cell code is in
      let own : code_for texts cell ≡ code = ap (λ o. unwrap_or o (length texts)) (sym is) in
      ap (λ c. agrees equal c (code_for texts text)) own
      ∙ ap (λ b. if equal then b else not b) (sym (same_code texts text code apart found.0))
      ∙ ap (is_text equal text) found.1

-- the cells of a column that are a text, by their codes
pub texts_by_code : (equal : Bool) (text : List ℕ) (cells : List (List ℕ)) → map (has_code equal (dictionary_of cells) (code_for (dictionary_of cells) text)) cells ≡ map (is_text equal text) cells
texts_by_code equal text cells =
    map_same [] (has_code equal (dictionary_of cells) (code_for (dictionary_of cells) text)) (is_text equal text) cells
    (λ k below.
    cell_code (dictionary_of cells) (get_or cells k []) text equal (dictionary_distinct cells)
    (dictionary_contains cells (get_or cells k []) ∙ contains_at cells k below))
