-- Names cut short go on: of the 53 letters that may end a name at most 47 are taken, by the 32
-- keywords and 15 columns.
use Rattle.std.proofs.Common.{◌≡◌, ◌≢◌, ℕ, zero, suc, ◌+◌, ◌-◌, ◌<◌, ◌≤◌, Bool, true, false, ◌&&◌, ◌||◌, nat_le, ◌==◌, List, [], ◌∷◌, ◌++◌, length, map, replicate, refl, sym, ap, ◌∙◌, arith, if◌then◌else◌, is_some, Some, append_assoc}
use Rattle.std.specs.List.{list_all, list_any, find, AllByRecursion}
use Rattle.std.proofs.lemmas.List.{length-append, length-map, length-replicate}
use Rattle.std.proofs.lemmas.Bool.Decides.{nat_tests}
use Rattle.tl_types.specs.declared.schemas.Column.{Column}
use Rattle.tl_types.specs.declared.keywords.Keyword.{Keyword}
use Rattle.tl_types.specs.Facts.{AscendFrom, names_of}
use Rattle.tl_types.specs.Names.{begins_word, continues_word, is_digit, is_word, is_keyword, keywords, spelling_of, same_bytes}
use Rattle.tl_record.specs.Reading.{is_new_name, begins_name}
use Rattle.tl_record.proofs.Letters.{both, is_new}

abbrev pub Word : Type 0
Word = List ℕ

pub same_word : (xs ys : List ℕ) → same_bytes xs ys ≡ true → xs ≡ ys
same_word [] [] e = refl
same_word [] (y ∷ ys) e = absurd (cc)
same_word (x ∷ xs) [] e = absurd (cc)
same_word (x ∷ xs) (y ∷ ys) e =
    let b = both (x == y) (same_bytes xs ys) e in
    let h = b.0 in
    let first : x ≡ y = grind (arith, nat_tests) in
    ap (λ z. z ∷ xs) first ∙ ap (λ zs. y ∷ zs) (same_word xs ys b.1)

-- a word is among some
abbrev pub hits : List Word → Word → Bool
hits words w = list_any (λ y. same_bytes y w) words

-- LETTERS TAKEN AWAY

abbrev without : ℕ → List ℕ → List ℕ
without x [] = []
without x (c ∷ cs) = if c == x then cs else c ∷ without x cs

weaker : (a b : ℕ) (cs : List ℕ) → b ≤ a → AscendFrom a cs → AscendFrom b cs
weaker a b [] h f = tt
weaker a b (c ∷ cs) h f = let g = f.0 in (omega (arith, h, g), f.1)

still_ascend : (x low : ℕ) (cs : List ℕ) → AscendFrom low cs → AscendFrom low (without x cs)
still_ascend x low [] f = tt
still_ascend x low (c ∷ cs) f = by_test (c == x) (still_ascend x (c + 1) cs f.1) where
  by_test : (t : Bool) → AscendFrom (c + 1) (without x cs) → AscendFrom low (if t then cs else c ∷ without x cs)
  by_test true ih = let g = f.0 in weaker (c + 1) low cs (omega (arith, g)) f.1
  by_test false ih = (f.0, ih)

fewer : (x : ℕ) (cs : List ℕ) → length cs ≤ length (without x cs) + 1
fewer x [] = omega arith
fewer x (c ∷ cs) = by_test (c == x) (fewer x cs) where
  by_test : (t : Bool) → length cs ≤ length (without x cs) + 1
      → suc (length cs) ≤ length (if t then cs else c ∷ without x cs) + 1
  by_test true ih = omega arith
  by_test false ih = omega (arith, ih)

-- what is left passes, and is not x
abbrev Other : (ℕ → Type 0) → ℕ → ℕ → Type 0
Other P x c = P c × (c ≢ x)

greater : (P : ℕ → Type 0) (x low : ℕ) (cs : List ℕ) → x < low → AscendFrom low cs
    → AllByRecursion P cs → AllByRecursion (Other P x) cs
greater P x low [] h f p = tt
greater P x low (c ∷ cs) h f p =
    let g = f.0 in
    ((p.0, (λ e. absurd (omega (arith, e, g, h)))), greater P x (c + 1) cs (omega (arith, g, h)) f.1 p.1)

kept : (P : ℕ → Type 0) (x low : ℕ) (cs : List ℕ) → AscendFrom low cs → AllByRecursion P cs
    → AllByRecursion (Other P x) (without x cs)
kept P x low [] f p = tt
kept P x low (c ∷ cs) f p = by_test (c == x) refl (kept P x (c + 1) cs f.1 p.1) where
  by_test : (t : Bool) → (c == x) ≡ t → AllByRecursion (Other P x) (without x cs)
      → AllByRecursion (Other P x) (if t then cs else c ∷ without x cs)
  by_test true e ih =
      let is : c ≡ x = grind (arith, nat_tests) in
      greater P x (c + 1) cs (omega (arith, is)) f.1 p.1
  by_test false e ih =
      let other : ¬ (c ≡ x) = grind (arith, nat_tests) in
      ((p.0, other), ih)

-- a letter whose word is none of the taken ones
module _ (word : ℕ → Word) (last_of : Word → ℕ) (lasts : (c : ℕ) → last_of (word c) ≡ c) where
  missed : (f : Word) (c : ℕ) → c ≢ last_of f → same_bytes f (word c) ≡ false
  missed f c other = by_test (same_bytes f (word c)) refl where
    by_test : (t : Bool) → same_bytes f (word c) ≡ t → same_bytes f (word c) ≡ false
    by_test true e = absurd (other (sym (lasts c) ∙ ap last_of (sym (same_word f (word c) e))))
    by_test false e = e

  fresh : (P : ℕ → Type 0) (taken : List Word) (cs : List ℕ) (low : ℕ) → AscendFrom low cs
      → AllByRecursion P cs → length taken < length cs → (c : ℕ) × (P c × (hits taken (word c) ≡ false))
  fresh P taken [] low f p h = absurd (omega (arith, h))
  fresh P [] (c ∷ cs) low f p h = (c, (p.0, refl))
  fresh P (t ∷ taken) (c ∷ cs) low f p h =
      let x : ℕ = last_of t in
      let l = fewer x (c ∷ cs) in
      let r = fresh (Other P x) taken (without x (c ∷ cs)) low (still_ascend x low (c ∷ cs) f)
      (kept P x low (c ∷ cs) f p) (omega (arith, l, h)) in
      let m = missed t r.0 r.1.0.1 in
      (r.0, (r.1.0.0, rw m r.1.1))

-- THE LETTERS

abbrev letters : List ℕ
letters =
    65 ∷ 66 ∷ 67 ∷ 68 ∷ 69 ∷ 70 ∷ 71 ∷ 72 ∷ 73 ∷ 74 ∷ 75 ∷ 76 ∷ 77 ∷ 78 ∷ 79 ∷ 80 ∷ 81 ∷ 82 ∷ 83 ∷ 84
    ∷ 85 ∷ 86 ∷ 87 ∷ 88 ∷ 89 ∷ 90 ∷ 95 ∷ 97 ∷ 98 ∷ 99 ∷ 100 ∷ 101 ∷ 102 ∷ 103 ∷ 104 ∷ 105 ∷ 106 ∷ 107
    ∷ 108 ∷ 109 ∷ 110 ∷ 111 ∷ 112 ∷ 113 ∷ 114 ∷ 115 ∷ 116 ∷ 117 ∷ 118 ∷ 119 ∷ 120 ∷ 121 ∷ 122 ∷ []

abbrev ascends : ℕ → List ℕ → Bool
ascends low [] = true
ascends low (c ∷ cs) = nat_le low c && ascends (c + 1) cs

ascends_so : (low : ℕ) (cs : List ℕ) → ascends low cs ≡ true → AscendFrom low cs
ascends_so low [] e = tt
ascends_so low (c ∷ cs) e =
    let b = both (nat_le low c) (ascends (c + 1) cs) e in
    let h = b.0 in
    (grind (arith, nat_tests), ascends_so (c + 1) cs b.1)

abbrev IsLetter : ℕ → Type 0
IsLetter c = begins_word c ≡ true

all_letters : (cs : List ℕ) → list_all begins_word cs ≡ true → AllByRecursion IsLetter cs
all_letters [] e = tt
all_letters (c ∷ cs) e =
    let b = both (begins_word c) (list_all begins_word cs) e in
    (b.0, all_letters cs b.1)

letters_ascend : AscendFrom 0 letters
letters_ascend = ascends_so 0 letters refl

letters_begin : AllByRecursion IsLetter letters
letters_begin = all_letters letters refl

-- WORDS THAT A LETTER ENDS

-- so many letters, and one that ends the word
abbrev filled : List ℕ → ℕ → ℕ → Word
filled front k c = front ++ (replicate k 97 ++ c ∷ [])

abbrev last_byte : Word → ℕ
last_byte [] = 0
last_byte (b ∷ []) = b
last_byte (b ∷ c ∷ bs) = last_byte (c ∷ bs)

last_of_all : (bs : List ℕ) (c : ℕ) → last_byte (bs ++ c ∷ []) ≡ c
last_of_all [] c = refl
last_of_all (b ∷ []) c = refl
last_of_all (b ∷ d ∷ bs) c = last_of_all (d ∷ bs) c

filled_last : (front : List ℕ) (k c : ℕ) → last_byte (filled front k c) ≡ c
filled_last front k c =
    ap last_byte (sym (append_assoc front (replicate k 97) (c ∷ []))) ∙ last_of_all (front ++ replicate k 97) c

all_more : (q : ℕ → Bool) (xs ys : List ℕ) → list_all q xs ≡ true → list_all q ys ≡ true
    → list_all q (xs ++ ys) ≡ true
all_more q [] ys e f = f
all_more q (x ∷ xs) ys e f =
    let b = both (q x) (list_all q xs) e in
    rw (b.0, all_more q xs ys b.1 f) refl

all_first : (q : ℕ → Bool) (xs ys : List ℕ) → list_all q (xs ++ ys) ≡ true → list_all q xs ≡ true
all_first q [] ys e = refl
all_first q (x ∷ xs) ys e =
    let b = both (q x) (list_all q (xs ++ ys)) e in
    rw (b.0, all_first q xs ys b.1) refl

begins_continues : (c : ℕ) → begins_word c ≡ true → continues_word c ≡ true
begins_continues c e = ap (λ t. t || is_digit c) e

tail_continues : (k c : ℕ) → begins_word c ≡ true → list_all continues_word (replicate k 97 ++ c ∷ []) ≡ true
tail_continues zero c e = rw (begins_continues c e) refl
tail_continues (suc k) c e = tail_continues k c e

begins_is : (f : ℕ) (front : List ℕ) → begins_name (f ∷ front) ≡ is_word (f ∷ front)
unfolding begins_name
begins_is f front =
    let e : (length (f ∷ front) == 0) ≡ false = grind (arith, nat_tests) in
    rw e refl

filled_word : (front : List ℕ) (k c : ℕ) → begins_name front ≡ true → begins_word c ≡ true
    → is_word (filled front k c) ≡ true
unfolding begins_name
filled_word [] zero c b e = rw e refl
filled_word [] (suc k) c b e = tail_continues k c e
filled_word (f ∷ front) k c b e =
    let d = both (begins_word f) (list_all continues_word front) (sym (begins_is f front) ∙ b) in
    rw (d.0, all_more continues_word front (replicate k 97 ++ c ∷ []) d.1 (tail_continues k c e)) refl

-- THE TAKEN WORDS

some_hit : (ks : List Keyword) (w : Word)
    → is_some (find (λ k. same_bytes (spelling_of k) w) ks) ≡ hits (map spelling_of ks) w
some_hit [] w = refl
some_hit (k ∷ ks) w = by_test (same_bytes (spelling_of k) w) (some_hit ks w) where
  by_test : (t : Bool) → is_some (find (λ k. same_bytes (spelling_of k) w) ks) ≡ hits (map spelling_of ks) w
      → is_some (if t then Some k else find (λ k. same_bytes (spelling_of k) w) ks)
      ≡ (t || hits (map spelling_of ks) w)
  by_test true ih = refl
  by_test false ih = ih

hits_first : (xs ys : List Word) (w : Word) → hits (xs ++ ys) w ≡ false → hits xs w ≡ false
hits_first [] ys w e = refl
hits_first (x ∷ xs) ys w e = by_test (same_bytes x w) (hits_first xs ys w) e where
  by_test : (t : Bool) → (hits (xs ++ ys) w ≡ false → hits xs w ≡ false)
      → (t || hits (xs ++ ys) w) ≡ false → (t || hits xs w) ≡ false
  by_test true ih e = absurd (cc)
  by_test false ih e = ih e

hits_second : (xs ys : List Word) (w : Word) → hits (xs ++ ys) w ≡ false → hits ys w ≡ false
hits_second [] ys w e = e
hits_second (x ∷ xs) ys w e = by_test (same_bytes x w) (hits_second xs ys w) e where
  by_test : (t : Bool) → (hits (xs ++ ys) w ≡ false → hits ys w ≡ false)
      → (t || hits (xs ++ ys) w) ≡ false → hits ys w ≡ false
  by_test true ih e = absurd (cc)
  by_test false ih e = ih e

keyword_words : length (map spelling_of keywords) ≡ 32
unfolding keywords
keyword_words = refl

abbrev taken_words : List Column → List Word
taken_words columns = map spelling_of keywords ++ names_of columns

few_taken : (columns : List Column) → length columns ≤ 15 → length (taken_words columns) ≤ 47
few_taken columns h =
    let a = length-append (map spelling_of keywords) (names_of columns) in
    let b = length-map columns (λ c. c.name) in
    omega (arith, a, b, h, keyword_words)

is_new_word : (columns : List Column) (w : Word) → is_word w ≡ true → length w ≤ 64
    → hits (taken_words columns) w ≡ false → is_new_name columns w ≡ true
unfolding is_new_name
is_new_word columns w word short free =
    let k : is_keyword w ≡ false = some_hit keywords w ∙ hits_first (map spelling_of keywords) (names_of columns) w free in
    let n : list_any (λ c. same_bytes c w) (names_of columns) ≡ false = hits_second (map spelling_of keywords) (names_of columns) w free in
    let l : nat_le (length w) 64 ≡ true = grind (arith, nat_tests) in
    rw (word, l, k, n) refl

length_filled : (front : List ℕ) (k c : ℕ) → length (filled front k c) ≡ length front + (k + 1)
length_filled front k c =
    let a = length-append front (replicate k 97 ++ c ∷ []) in
    let b = length-append (replicate k 97) (c ∷ []) in
    let d = length-replicate {A = ℕ} k 97 in
    omega (arith, a, b, d)

-- BOTH DIRECTIONS

pub name_goes_on : (columns : List Column) (n : ℕ) → length columns ≤ 15 → n ≤ 64
    → (bytes : List ℕ) → length bytes < n → begins_name bytes ≡ true
    → (more : List ℕ) × (is_new_name columns (bytes ++ more) ≡ true) × (length (bytes ++ more) ≡ n)
name_goes_on columns n few small bytes less begins =
    let k : ℕ = n - length bytes - 1 in
    let room = few_taken columns few in
    let r = fresh (filled bytes k) last_byte (filled_last bytes k) IsLetter (taken_words columns) letters 0
    letters_ascend letters_begin (omega (arith, room)) in
    let l = length_filled bytes k r.0 in
    let whole : length (filled bytes k r.0) ≡ n = omega (arith, l, less) in (
      replicate k 97 ++ r.0 ∷ [],
      is_new_word columns (filled bytes k r.0) (filled_word bytes k r.0 begins r.1.0)
          (omega (arith, whole, small)) r.1.1,
      whole,
    )

pub name_began : (columns : List Column) (n : ℕ) (bytes more : List ℕ) → length bytes < n
    → is_new_name columns (bytes ++ more) ≡ true → length (bytes ++ more) ≡ n → begins_name bytes ≡ true
unfolding begins_name
name_began columns n [] more less new e = refl
name_began columns n (b ∷ bytes) more less new e =
    let w = (is_new columns (b ∷ bytes ++ more) new).word in
    let d = both (begins_word b) (list_all continues_word (bytes ++ more)) w in
    let whole : is_word (b ∷ bytes) ≡ true = rw (d.0, all_first continues_word bytes more d.1) refl in
    begins_is b bytes ∙ whole
