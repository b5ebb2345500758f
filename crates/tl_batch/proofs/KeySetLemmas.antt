-- Sets of keys: the numbers, and the texts.
use Rattle.std.proofs.Common.{◌≡◌, ℕ, ℤ, Bool, true, false, ◌||◌, not, cond, List, [], ◌∷◌, ◌++◌, map, refl, sym, ap, ◌∙◌}
use Rattle.std.specs.Borrow.{Bor}
use Rattle.std.specs.List.{list_any}
use Rattle.std.specs.Ordering.{int_eq}
use Rattle.std.proofs.lemmas.List.Folds.{list_any-append}
use Rattle.tl_types.specs.declared.cells.Cell.{Cell}
use Rattle.tl_types.specs.declared.cells.Cell.TheVariants as cell
use Rattle.tl_types.specs.Names.{same_bytes}
use Rattle.tl_types.specs.History.{same_cell}
use Rattle.tl_batch.specs.Untimed.{has_cell}

-- a key more
pub one_more : (a b c : Bool) → a ≡ b → cond a true c ≡ (b || c)
one_more true true c e = refl
one_more true false c e = absurd (cc)
one_more false true c e = absurd (cc)
one_more false false c e = refl

-- whether a set of numbers and texts has a key
abbrev pub among : List ℤ → List (Bor (List ℕ)) → Cell → Bool
among numbers texts (cell.Int i) = list_any (int_eq i) numbers
among numbers texts (cell.Text t) = list_any (λ k. same_bytes t k.now) texts

number_among : (i : ℤ) (numbers : List ℤ) → has_cell (map cell.Int numbers) (cell.Int i) ≡ list_any (int_eq i) numbers
number_among i [] = refl
number_among i (j ∷ numbers) = ap (λ b. int_eq i j || b) (number_among i numbers)

text_apart : (t : List ℕ) (numbers : List ℤ) → has_cell (map cell.Int numbers) (cell.Text t) ≡ false
text_apart t [] = refl
text_apart t (j ∷ numbers) = text_apart t numbers

text_among : (t : List ℕ) (texts : List (Bor (List ℕ))) → has_cell (map (λ k. cell.Text k.now) texts) (cell.Text t) ≡ list_any (λ k. same_bytes t k.now) texts
text_among t [] = refl
text_among t (u ∷ texts) = ap (λ b. same_bytes t u.now || b) (text_among t texts)

number_apart : (i : ℤ) (texts : List (Bor (List ℕ))) → has_cell (map (λ k. cell.Text k.now) texts) (cell.Int i) ≡ false
number_apart i [] = refl
number_apart i (u ∷ texts) = number_apart i texts

or_none : (a b : Bool) → b ≡ false → (a || b) ≡ a
or_none true b e = refl
or_none false b e = e

-- a key is in the list of the keys exactly where it is among the numbers or the texts
pub in_set : (numbers : List ℤ) (texts : List (Bor (List ℕ))) (x : Cell) → has_cell (map cell.Int numbers ++ map (λ k. cell.Text k.now) texts) x ≡ among numbers texts x
in_set numbers texts (cell.Int i) =
    list_any-append (same_cell (cell.Int i)) (map cell.Int numbers) (map (λ k. cell.Text k.now) texts)
    ∙ (or_none (has_cell (map cell.Int numbers) (cell.Int i)) (has_cell (map (λ k. cell.Text k.now) texts) (cell.Int i)) (number_apart i texts) ∙ number_among i numbers)
in_set numbers texts (cell.Text t) =
    list_any-append (same_cell (cell.Text t)) (map cell.Int numbers) (map (λ k. cell.Text k.now) texts)
    ∙ (ap (λ b. b || has_cell (map (λ k. cell.Text k.now) texts) (cell.Text t)) (text_apart t numbers) ∙ text_among t texts)

module _ (numbers : List ℤ) (texts : List (Bor (List ℕ))) (all : List Cell) (view : map cell.Int numbers ++ map (λ k. cell.Text k.now) texts ≡ all) (key : Cell) where
  -- a number
  module _ (i : ℤ) (is : key ≡ cell.Int i) where
    pub one_number : (fresh : Bool) → fresh ≡ not (list_any (int_eq i) numbers) → fresh ≡ not (has_cell all key)
    one_number fresh e = e ∙ ap not (sym (in_set numbers texts (cell.Int i)) ∙ (ap (has_cell (map cell.Int numbers ++ map (λ k. cell.Text k.now) texts)) (sym is) ∙ ap (λ ks. has_cell ks key) view))

    more_numbers : (more : List ℤ) → ((j : ℤ) → list_any (int_eq j) more ≡ (int_eq j i || list_any (int_eq j) numbers)) → (x : Cell) → among more texts x ≡ (same_cell x (cell.Int i) || among numbers texts x)
    more_numbers more change (cell.Int j) = change j
    more_numbers more change (cell.Text t) = refl

    pub number_added : (more : List ℤ) → ((j : ℤ) → list_any (int_eq j) more ≡ (int_eq j i || list_any (int_eq j) numbers))
        → (x : Cell) → has_cell (map cell.Int more ++ map (λ k. cell.Text k.now) texts) x ≡ (same_cell x key || has_cell all x)
    number_added more change x =
        in_set more texts x ∙ (more_numbers more change x
        ∙ (ap (λ b. same_cell x (cell.Int i) || b) (sym (in_set numbers texts x) ∙ ap (λ ks. has_cell ks x) view) ∙ ap (λ k. same_cell x k || has_cell all x) (sym is)))

  -- a text
  module _ (t : List ℕ) (is : key ≡ cell.Text t) where
    pub one_text : (fresh : Bool) → fresh ≡ not (list_any (λ k. same_bytes t k.now) texts) → fresh ≡ not (has_cell all key)
    one_text fresh e = e ∙ ap not (sym (in_set numbers texts (cell.Text t)) ∙ (ap (has_cell (map cell.Int numbers ++ map (λ k. cell.Text k.now) texts)) (sym is) ∙ ap (λ ks. has_cell ks key) view))

    more_texts : (more : List (Bor (List ℕ))) → ((u : List ℕ) → list_any (λ k. same_bytes u k.now) more ≡ (same_bytes u t || list_any (λ k. same_bytes u k.now) texts)) → (x : Cell) → among numbers more x ≡ (same_cell x (cell.Text t) || among numbers texts x)
    more_texts more change (cell.Int j) = refl
    more_texts more change (cell.Text u) = change u

    pub text_added : (more : List (Bor (List ℕ))) → ((u : List ℕ) → list_any (λ k. same_bytes u k.now) more ≡ (same_bytes u t || list_any (λ k. same_bytes u k.now) texts))
        → (x : Cell) → has_cell (map cell.Int numbers ++ map (λ k. cell.Text k.now) more) x ≡ (same_cell x key || has_cell all x)
    text_added more change x =
        in_set numbers more x ∙ (more_texts more change x
        ∙ (ap (λ b. same_cell x (cell.Text t) || b) (sym (in_set numbers texts x) ∙ ap (λ ks. has_cell ks x) view) ∙ ap (λ k. same_cell x k || has_cell all x) (sym is)))
