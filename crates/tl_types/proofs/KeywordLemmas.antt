-- Keywords by their numbers of letters: a word is looked for among those of its own length.
use Rattle.std.proofs.Common.{◌≡◌, ◌≢◌, ℕ, Bool, true, false, List, [], ◌∷◌, length, ◌==◌, refl, ap, ◌∙◌, arith}
use Rattle.std.specs.Prelude.{Option, not, ◌&&◌}
use Rattle.std.specs.List.{find, filter, list_all}
use Rattle.std.specs.Cmp.Lexicographic.{unequal}
use Rattle.std.proofs.lemmas.Bool.Decides.{nat_tests}
use Rattle.tl_types.specs.declared.keywords.Keyword.{Keyword}
use Rattle.tl_types.specs.Names.{same_bytes, spelling_of, keywords, keyword_of}

-- what passes no wider test is not looked for
pub find_filtered : {X : Type 0} (p q : X → Bool) (xs : List X)
    → ((x : X) → q x ≡ false → p x ≡ false) → find p (filter q xs) ≡ find p xs
find_filtered p q [] h = refl
find_filtered p q (x ∷ xs) h = by_test (q x) refl (find_filtered p q xs h) where
  by_test : (t : Bool) → q x ≡ t → find p (filter q xs) ≡ find p xs
      → find p (filter q (x ∷ xs)) ≡ find p (x ∷ xs)
  by_test true e ih = rw (e, ih) refl
  by_test false e ih = rw (e, h x e, ih) refl

other_length : (spelled word : List ℕ) → (length spelled == length word) ≡ false
    → same_bytes spelled word ≡ false
other_length spelled word h = unequal _ spelled word (λ e. absurd (grind (arith, nat_tests)))

-- what begins with another byte is another text
pub other_first : (x y : ℕ) (xs ys : List ℕ) → x ≢ y → false ≡ same_bytes (x ∷ xs) (y ∷ ys)
other_first x y xs ys h = let e : (x == y) ≡ false = grind (arith, nat_tests) in rw e refl

-- a word is found among the keywords of its length, or nowhere
pub of_its_length : (word : List ℕ) (ks : List Keyword) (found : Option Keyword)
    → ks ≡ filter (λ k. length (spelling_of k) == length word) keywords
    → found ≡ find (λ k. same_bytes (spelling_of k) word) ks → found ≡ keyword_of word
of_its_length word ks found k f =
    f ∙ (ap (find (λ k. same_bytes (spelling_of k) word)) k
    ∙ find_filtered _ _ keywords (λ k h. other_length (spelling_of k) word h))

-- where each fails a test, none passes
filter_none : {X : Type 0} (q : X → Bool) (xs : List X) → list_all (λ x. not (q x)) xs ≡ true
    → filter q xs ≡ []
filter_none q [] h = refl
filter_none q (x ∷ xs) h = by_test (q x) refl h (filter_none q xs) where
  by_test : (t : Bool) → q x ≡ t → (not (q x) && list_all (λ x. not (q x)) xs) ≡ true
      → (list_all (λ x. not (q x)) xs ≡ true → filter q xs ≡ []) → filter q (x ∷ xs) ≡ []
  by_test true e h ih = absurd (let f = rw e at h in cc)
  by_test false e h ih = let f = rw e at h in rw e (ih f)

differ : (m n : ℕ) → n ≢ m → (m == n) ≡ false
differ m n h = grind (arith, nat_tests)

-- no keyword has another number of letters
pub none_of_length : (n : ℕ) → n ≢ 2 → n ≢ 3 → n ≢ 4 → n ≢ 5 → n ≢ 6 → n ≢ 7 → n ≢ 8 → n ≢ 10
    → filter (λ k. length (spelling_of k) == n) keywords ≡ []
unfolding spelling_of keywords
none_of_length n two three four five six seven eight ten =
    filter_none (λ k. length (spelling_of k) == n) keywords (rw (
      differ 2 n two,
      differ 3 n three,
      differ 4 n four,
      differ 5 n five,
      differ 6 n six,
      differ 7 n seven,
      differ 8 n eight,
      differ 10 n ten,
    ) refl)
