-- Texts cut short: at most three bytes complete the last letter, all of them the least or all of
-- them the greatest that may stand within a letter.
use Rattle.std.proofs.Common.{◌≡◌, ◌≢◌, ℕ, zero, suc, ◌+◌, ◌-◌, ◌*◌, ◌/◌, ◌%◌, ◌<◌, ◌≤◌, Bool, true, false, ◌||◌, nat_le, nat_lt, List, [], ◌∷◌, ◌++◌, length, get_or, replicate, drop, refl, sym, ap, ◌∙◌, subst, arith, append_assoc, ◌⊎◌}
use mathlib.Core.Logic.{inl, inr}
use lib.Utf8.{scalar, scalars, encode, encodes, next, scalar_cases, low_scalar}
use Rattle.std.proofs.str.Laws.{one, two, three, four, order}
use Rattle.std.specs.Str.{IsUtf8, is_utf8}
use Rattle.std.proofs.lemmas.Str.{IsUtf8-from_is_utf8, is_utf8-from_IsUtf8, IsUtf8-from_ascii, IsUtf8-append, IsUtf8-encode, IsUtf8-nil}
use Rattle.std.proofs.lemmas.List.{length-append, length-replicate, append-nil}
use Rattle.std.proofs.lemmas.Bool.Decides.{nat_tests}
use Rattle.tl_record.specs.Reading.{begins_text, goes_on_by}
use Rattle.tl_record.proofs.Letters.{both}

-- LETTERS THAT FILL A TEXT

plain_ascii : (n : ℕ) (i : ℕ) → get_or (replicate n 97) i 0 < 128
plain_ascii zero i = omega arith
plain_ascii (suc n) zero = omega arith
plain_ascii (suc n) (suc i) = plain_ascii n i

plain_text : (n : ℕ) → IsUtf8 (replicate n 97)
plain_text n = IsUtf8-from_ascii (replicate n 97) (plain_ascii n)

pub some_text : (n : ℕ) → (t : List ℕ) × IsUtf8 t × (length t ≡ n)
some_text n = (replicate n 97, plain_text n, length-replicate {A = ℕ} n 97)

-- A TEXT THAT GOES ON

either : (a b : Bool) → (a || b) ≡ true → (a ≡ true) ⊎ (b ≡ true)
either true b e = inl refl
either false b e = inr e

-- the bytes go on to a text of n bytes
abbrev Goes : ℕ → List ℕ → Type 0
Goes n bytes = (more : List ℕ) × (is_utf8 (bytes ++ more) ≡ true) × (length (bytes ++ more) ≡ n)

goes_filled : (n k fill : ℕ) (bytes : List ℕ) → length bytes + k ≤ n
    → is_utf8 (bytes ++ replicate k fill) ≡ true → Goes n bytes
goes_filled n k fill bytes room e =
    let front : List ℕ = bytes ++ replicate k fill in
    let m : ℕ = n - (length bytes + k) in
    let whole : (bytes ++ (replicate k fill ++ replicate m 97)) ≡ front ++ replicate m 97 =
    sym (append_assoc bytes (replicate k fill) (replicate m 97)) in
    let text : IsUtf8 (front ++ replicate m 97) =
    IsUtf8-append front (replicate m 97) (IsUtf8-from_is_utf8 front e) (plain_text m) in
    let a = length-append front (replicate m 97) in
    let b = length-append bytes (replicate k fill) in
    let c = length-replicate {A = ℕ} k fill in
    let d = length-replicate {A = ℕ} m 97 in (
      replicate k fill ++ replicate m 97,
      ap is_utf8 whole ∙ is_utf8-from_IsUtf8 (front ++ replicate m 97) text,
      ap length whole ∙ (let l : length (front ++ replicate m 97) ≡ n = omega (arith, a, b, c, d, room) in l),
    )

goes_by : (n k : ℕ) (bytes : List ℕ) → goes_on_by n bytes k ≡ true → Goes n bytes
goes_by n k bytes e =
    let p = both (nat_le (length bytes + k) n)
    (is_utf8 (bytes ++ replicate k 128) || is_utf8 (bytes ++ replicate k 191)) e in
    let h = p.0 in
    let room : length bytes + k ≤ n = grind (arith, nat_tests) in
    by_fill room (either (is_utf8 (bytes ++ replicate k 128)) (is_utf8 (bytes ++ replicate k 191)) p.1) where
      by_fill : length bytes + k ≤ n
          → (is_utf8 (bytes ++ replicate k 128) ≡ true) ⊎ (is_utf8 (bytes ++ replicate k 191) ≡ true)
          → Goes n bytes
      by_fill room (inl t) = goes_filled n k 128 bytes room t
      by_fill room (inr t) = goes_filled n k 191 bytes room t

pub text_goes_on : (n : ℕ) (bytes : List ℕ) → length bytes < n → begins_text n bytes ≡ true
    → (more : List ℕ) × (is_utf8 (bytes ++ more) ≡ true) × (length (bytes ++ more) ≡ n)
unfolding begins_text
text_goes_on n bytes less e =
    by_three (either (goes_on_by n bytes 0 || goes_on_by n bytes 1 || goes_on_by n bytes 2) (goes_on_by n bytes 3) e) where
      by_one : (goes_on_by n bytes 0 ≡ true) ⊎ (goes_on_by n bytes 1 ≡ true) → Goes n bytes
      by_one (inl t) = goes_by n 0 bytes t
      by_one (inr t) = goes_by n 1 bytes t

      by_two : ((goes_on_by n bytes 0 || goes_on_by n bytes 1) ≡ true) ⊎ (goes_on_by n bytes 2 ≡ true) → Goes n bytes
      by_two (inl t) = by_one (either (goes_on_by n bytes 0) (goes_on_by n bytes 1) t)
      by_two (inr t) = goes_by n 2 bytes t

      by_three : ((goes_on_by n bytes 0 || goes_on_by n bytes 1 || goes_on_by n bytes 2) ≡ true)
          ⊎ (goes_on_by n bytes 3 ≡ true) → Goes n bytes
      by_three (inl t) = by_two (either (goes_on_by n bytes 0 || goes_on_by n bytes 1) (goes_on_by n bytes 2) t)
      by_three (inr t) = goes_by n 3 bytes t

-- A LETTER CUT SHORT

-- the bytes are a text with k bytes more, all the least or all the greatest
abbrev Filled : List ℕ → ℕ → Type 0
Filled bytes k = IsUtf8 (bytes ++ replicate k 128) ⊎ IsUtf8 (bytes ++ replicate k 191)

-- a letter and its bytes
letter_is : (c : ℕ) (bytes : List ℕ) → scalar c ≡ true → encode c ≡ bytes → IsUtf8 bytes
letter_is c bytes s e = subst IsUtf8 e (IsUtf8-encode c s)

low : (c : ℕ) → c < 55296 → scalar c ≡ true
low c h = low_scalar c h

high : (c : ℕ) → 57344 ≤ c → c < 1114112 → scalar c ≡ true
high c h l =
    let a : nat_lt c 55296 ≡ false = grind (arith, nat_tests) in
    let b : nat_le 57344 c ≡ true = grind (arith, nat_tests) in
    let d : nat_lt c 1114112 ≡ true = grind (arith, nat_tests) in
    rw (a, b, d) refl

abbrev Scalar : ℕ → Type 0
Scalar c = (c < 55296) ⊎ ((57344 ≤ c) × (c < 1114112))

-- a letter whose last bits are other ones
scalar_near : (c d : ℕ) → Scalar c → d < 1114112 → (c < 55296 → d < 55296) → (57344 ≤ c → 57344 ≤ d)
    → scalar d ≡ true
scalar_near c d (inl h) l f g = low d (f h)
scalar_near c d (inr h) l f g = high d (g h.0) l

two_bytes : (c : ℕ) → 128 ≤ c → c < 2048 → IsUtf8 ((192 + c / 64) ∷ 128 ∷ [])
two_bytes c l u =
    let d : ℕ = c / 64 * 64 in
    letter_is d ((192 + c / 64) ∷ 128 ∷ []) (low d (omega (arith, u)))
    (two d (omega (arith, l)) (omega (arith, u))
    ∙ (let p : d / 64 ≡ c / 64 = omega arith in let q : d % 64 ≡ 0 = omega arith in rw (p, q) refl))

-- the first of three
three_first : (c : ℕ) → Scalar c → 2048 ≤ c → c < 65536 → Filled ((224 + c / 4096) ∷ []) 2
three_first c s l u = by_size (order c 4096) where
  by_size : (c < 4096) ⊎ (4096 ≤ c) → Filled ((224 + c / 4096) ∷ []) 2
  by_size (inl h) =
      let e : c / 4096 ≡ 0 = omega (arith, h) in
      inr (rw e (letter_is 4095 (224 ∷ 191 ∷ 191 ∷ []) refl (three 4095 (omega arith) (omega arith))))
  by_size (inr h) =
      let d : ℕ = c / 4096 * 4096 in
      inl (letter_is d ((224 + c / 4096) ∷ 128 ∷ 128 ∷ [])
      (scalar_near c d s (omega (arith, u)) (λ g. omega (arith, g)) (λ g. omega (arith, g)))
      (three d (omega (arith, h)) (omega (arith, u))
      ∙ (let p : d / 4096 ≡ c / 4096 = omega arith in
      let q : d / 64 % 64 ≡ 0 = omega arith in
      let r : d % 64 ≡ 0 = omega arith in
      rw (p, q, r) refl)))

-- the first two of three
three_second : (c : ℕ) → Scalar c → 2048 ≤ c → c < 65536
    → Filled ((224 + c / 4096) ∷ next (c / 64) ∷ []) 1
three_second c s l u =
    let d : ℕ = c / 64 * 64 in
    inl (letter_is d ((224 + c / 4096) ∷ next (c / 64) ∷ 128 ∷ [])
    (scalar_near c d s (omega (arith, u)) (λ g. omega (arith, g)) (λ g. omega (arith, g)))
    (three d (omega (arith, l)) (omega (arith, u))
    ∙ (let p : d / 4096 ≡ c / 4096 = omega arith in
    let q : d / 64 ≡ c / 64 = omega arith in
    let r : d % 64 ≡ 0 = omega arith in
    rw (p, q, r) refl)))

-- the first of four
four_first : (c : ℕ) → 65536 ≤ c → c < 1114112 → Filled ((240 + c / 262144) ∷ []) 3
four_first c l u = by_size (order c 262144) where
  by_size : (c < 262144) ⊎ (262144 ≤ c) → Filled ((240 + c / 262144) ∷ []) 3
  by_size (inl h) =
      let e : c / 262144 ≡ 0 = omega (arith, h) in
      inr (rw e (letter_is 262143 (240 ∷ 191 ∷ 191 ∷ 191 ∷ []) refl (four 262143 (omega arith))))
  by_size (inr h) =
      let d : ℕ = c / 262144 * 262144 in
      inl (letter_is d ((240 + c / 262144) ∷ 128 ∷ 128 ∷ 128 ∷ [])
      (high d (omega (arith, h)) (omega (arith, u)))
      (four d (omega (arith, h))
      ∙ (let p : d / 262144 ≡ c / 262144 = omega arith in
      let q : d / 4096 % 64 ≡ 0 = omega arith in
      let r : d / 64 % 64 ≡ 0 = omega arith in
      let t : d % 64 ≡ 0 = omega arith in
      rw (p, q, r, t) refl)))

four_second : (c : ℕ) → 65536 ≤ c → c < 1114112
    → Filled ((240 + c / 262144) ∷ next (c / 4096) ∷ []) 2
four_second c l u =
    let d : ℕ = c / 4096 * 4096 in
    inl (letter_is d ((240 + c / 262144) ∷ next (c / 4096) ∷ 128 ∷ 128 ∷ [])
    (high d (omega (arith, l)) (omega (arith, u)))
    (four d (omega (arith, l))
    ∙ (let p : d / 262144 ≡ c / 262144 = omega arith in
    let q : d / 4096 ≡ c / 4096 = omega arith in
    let r : d / 64 % 64 ≡ 0 = omega arith in
    let t : d % 64 ≡ 0 = omega arith in
    rw (p, q, r, t) refl)))

four_third : (c : ℕ) → 65536 ≤ c → c < 1114112
    → Filled ((240 + c / 262144) ∷ next (c / 4096) ∷ next (c / 64) ∷ []) 1
four_third c l u =
    let d : ℕ = c / 64 * 64 in
    inl (letter_is d ((240 + c / 262144) ∷ next (c / 4096) ∷ next (c / 64) ∷ 128 ∷ [])
    (high d (omega (arith, l)) (omega (arith, u)))
    (four d (omega (arith, l))
    ∙ (let p : d / 262144 ≡ c / 262144 = omega arith in
    let q : d / 4096 ≡ c / 4096 = omega arith in
    let r : d / 64 ≡ c / 64 = omega arith in
    let t : d % 64 ≡ 0 = omega arith in
    rw (p, q, r, t) refl)))

-- the bytes of one letter, cut in two
abbrev CutLetter : List ℕ → List ℕ → Type 0
CutLetter t u = Filled t (length u) × (length u ≤ 3)

head_is : (x a : ℕ) (xs ys : List ℕ) → x ∷ xs ≡ a ∷ ys → x ≡ a
head_is x a xs ys e = ap (λ l. get_or l 0 0) e

cut_one : (a : ℕ) (t u : List ℕ) → t ≢ [] → u ≢ [] → t ++ u ≡ a ∷ [] → ⊥
cut_one a [] u f g e = f refl
cut_one a (x ∷ t) [] f g e = g refl
cut_one a (x ∷ t) (y ∷ u) f g e = let l = length-append t (y ∷ u) in omega (arith, l, ap length e)

cut_two : (a b : ℕ) → Filled (a ∷ []) 1 → (t u : List ℕ) → t ≢ [] → u ≢ [] → t ++ u ≡ a ∷ b ∷ [] → CutLetter t u
cut_two a b p [] u f g e = absurd (f refl)
cut_two a b p (x ∷ []) u f g e =
    let h : x ≡ a = head_is x a u (b ∷ []) e in
    let l : length u ≡ 1 = omega (arith, ap length e) in
    (rw (h, l) p, omega (arith, l))
cut_two a b p (x ∷ y ∷ t) [] f g e = absurd (g refl)
cut_two a b p (x ∷ y ∷ t) (z ∷ u) f g e =
    absurd (let l = length-append t (z ∷ u) in omega (arith, l, ap length e))

cut_three : (a b d : ℕ) → Filled (a ∷ []) 2 → Filled (a ∷ b ∷ []) 1 → (t u : List ℕ) → t ≢ [] → u ≢ []
    → t ++ u ≡ a ∷ b ∷ d ∷ [] → CutLetter t u
cut_three a b d p q [] u f g e = absurd (f refl)
cut_three a b d p q (x ∷ []) u f g e =
    let h : x ≡ a = ap (λ l. get_or l 0 0) e in
    let l : length u ≡ 2 = omega (arith, ap length e) in
    (rw (h, l) p, omega (arith, l))
cut_three a b d p q (x ∷ y ∷ []) u f g e =
    let h : x ≡ a = ap (λ l. get_or l 0 0) e in
    let i : y ≡ b = ap (λ l. get_or l 1 0) e in
    let l : length u ≡ 1 = omega (arith, ap length e) in
    (rw (h, i, l) q, omega (arith, l))
cut_three a b d p q (x ∷ y ∷ z ∷ t) [] f g e = absurd (g refl)
cut_three a b d p q (x ∷ y ∷ z ∷ t) (w ∷ u) f g e =
    absurd (let l = length-append t (w ∷ u) in omega (arith, l, ap length e))

cut_four : (a b d k : ℕ) → Filled (a ∷ []) 3 → Filled (a ∷ b ∷ []) 2 → Filled (a ∷ b ∷ d ∷ []) 1
    → (t u : List ℕ) → t ≢ [] → u ≢ [] → t ++ u ≡ a ∷ b ∷ d ∷ k ∷ [] → CutLetter t u
cut_four a b d k p q r [] u f g e = absurd (f refl)
cut_four a b d k p q r (x ∷ []) u f g e =
    let h : x ≡ a = ap (λ l. get_or l 0 0) e in
    let l : length u ≡ 3 = omega (arith, ap length e) in
    (rw (h, l) p, omega (arith, l))
cut_four a b d k p q r (x ∷ y ∷ []) u f g e =
    let h : x ≡ a = ap (λ l. get_or l 0 0) e in
    let i : y ≡ b = ap (λ l. get_or l 1 0) e in
    let l : length u ≡ 2 = omega (arith, ap length e) in
    (rw (h, i, l) q, omega (arith, l))
cut_four a b d k p q r (x ∷ y ∷ z ∷ []) u f g e =
    let h : x ≡ a = ap (λ l. get_or l 0 0) e in
    let i : y ≡ b = ap (λ l. get_or l 1 0) e in
    let j : z ≡ d = ap (λ l. get_or l 2 0) e in
    let l : length u ≡ 1 = omega (arith, ap length e) in
    (rw (h, i, j, l) r, omega (arith, l))
cut_four a b d k p q r (x ∷ y ∷ z ∷ w ∷ t) [] f g e = absurd (g refl)
cut_four a b d k p q r (x ∷ y ∷ z ∷ w ∷ t) (v ∷ u) f g e =
    absurd (let l = length-append t (v ∷ u) in omega (arith, l, ap length e))

under : (c : ℕ) → Scalar c → c < 1114112
under c (inl h) = omega (arith, h)
under c (inr h) = h.1

cut_letter : (c : ℕ) → Scalar c → (t u : List ℕ) → t ≢ [] → u ≢ [] → t ++ u ≡ encode c → CutLetter t u
cut_letter c s t u f g e = by_one (order c 128) where
  by_three : 2048 ≤ c → (c < 65536) ⊎ (65536 ≤ c) → CutLetter t u
  by_three l (inl h) =
      cut_three (224 + c / 4096) (next (c / 64)) (next c) (three_first c s l h) (three_second c s l h) t u f g
      (e ∙ three c l h)
  by_three l (inr h) =
      cut_four (240 + c / 262144) (next (c / 4096)) (next (c / 64)) (next c) (four_first c h (under c s))
      (four_second c h (under c s)) (four_third c h (under c s)) t u f g (e ∙ four c h)

  by_two : 128 ≤ c → (c < 2048) ⊎ (2048 ≤ c) → CutLetter t u
  by_two l (inl h) =
      cut_two (192 + c / 64) (next c) (inl (two_bytes c l h)) t u f g (e ∙ two c l h)
  by_two l (inr h) = by_three h (order c 65536)

  by_one : (c < 128) ⊎ (128 ≤ c) → CutLetter t u
  by_one (inl h) = absurd (cut_one c t u f g (e ∙ one c h))
  by_one (inr h) = by_two h (order c 2048)

-- A TEXT CUT SHORT

-- one front is the other and more
abbrev Fronts : List ℕ → List ℕ → List ℕ → List ℕ → Type 0
Fronts xs r ys s =
    ((z : List ℕ) × (ys ≡ xs ++ z) × (r ≡ z ++ s)) ⊎ ((z : List ℕ) × (xs ≡ ys ++ z) × (s ≡ z ++ r))

fronts : (xs r ys s : List ℕ) → xs ++ r ≡ ys ++ s → Fronts xs r ys s
fronts [] r ys s e = inl (ys, refl, e)
fronts (x ∷ xs) r [] s e = inr (x ∷ xs, refl, sym e)
fronts (x ∷ xs) r (y ∷ ys) s e = by_rest (fronts xs r ys s (ap (drop 1) e)) where
  same : x ≡ y
  same = ap (λ l. get_or l 0 0) e

  by_rest : Fronts xs r ys s → Fronts (x ∷ xs) r (y ∷ ys) s
  by_rest (inl f) = inl (f.0, ap (λ a. a ∷ ys) (sym same) ∙ ap (λ l. x ∷ l) f.1, f.2)
  by_rest (inr f) = inr (f.0, ap (λ a. a ∷ xs) same ∙ ap (λ l. y ∷ l) f.1, f.2)

abbrev CutText : List ℕ → List ℕ → Type 0
CutText bytes more = (k : ℕ) × (k ≤ 3) × (k ≤ length more) × Filled bytes k

nothing_cut : (more : List ℕ) → CutText [] more
nothing_cut more = (0, omega arith, omega arith, inl IsUtf8-nil)

behind_letter : (c : ℕ) (z more : List ℕ) → scalar c ≡ true → CutText z more → CutText (encode c ++ z) more
behind_letter c z more s r = (r.0, r.1, r.2, by_fill r.3) where
  text : (fill : ℕ) → IsUtf8 (z ++ replicate r.0 fill) → IsUtf8 ((encode c ++ z) ++ replicate r.0 fill)
  text fill t =
      subst IsUtf8 (sym (append_assoc (encode c) z (replicate r.0 fill)))
      (IsUtf8-append (encode c) (z ++ replicate r.0 fill) (IsUtf8-encode c s) t)

  by_fill : Filled z r.0 → Filled (encode c ++ z) r.0
  by_fill (inl t) = inl (text 128 t)
  by_fill (inr t) = inr (text 191 t)

cut_text : (cs bytes more : List ℕ) → scalars cs ≡ true → encodes cs ≡ bytes ++ more → CutText bytes more
cut_text [] [] more s e = nothing_cut more
cut_text [] (b ∷ bytes) more s e = absurd (cc)
cut_text (c ∷ cs) bytes more s e =
    by_front (λ z. cut_text cs z more p.1) (fronts (encode c) (encodes cs) bytes more e) where
      p : (scalar c ≡ true) × (scalars cs ≡ true)
      p = both (scalar c) (scalars cs) s

      inside : (z bytes' : List ℕ) → encode c ≡ bytes' ++ z → more ≡ z ++ encodes cs → CutText bytes' more
      inside z [] i j = nothing_cut more
      inside [] (b ∷ bytes') i j =
          let text : IsUtf8 (b ∷ bytes') = subst IsUtf8 (i ∙ append-nil (b ∷ bytes')) (IsUtf8-encode c p.0) in
          (0, omega arith, omega arith, inl (subst IsUtf8 (sym (append-nil (b ∷ bytes'))) text))
      inside (x ∷ z) (b ∷ bytes') i j =
          let r = cut_letter c (scalar_cases c p.0) (b ∷ bytes') (x ∷ z) (λ h. absurd (cc)) (λ h. absurd (cc)) (sym i) in
          let l : length more ≡ length (x ∷ z) + length (encodes cs) = ap length j ∙ length-append (x ∷ z) (encodes cs) in
          (length (x ∷ z), r.1, omega (arith, l), r.0)

      by_front : ((z : List ℕ) → encodes cs ≡ z ++ more → CutText z more)
          → Fronts (encode c) (encodes cs) bytes more → CutText bytes more
      by_front ih (inl f) =
          subst (λ l. CutText l more) (sym f.1) (behind_letter c f.0 more p.0 (ih f.0 f.2))
      by_front ih (inr f) = inside f.0 bytes f.1 f.2

any_true : (a b c d : Bool) → (a ≡ true) ⊎ ((b ≡ true) ⊎ ((c ≡ true) ⊎ (d ≡ true)))
    → (a || b || c || d) ≡ true
any_true true b c d h = refl
any_true false true c d h = refl
any_true false false true d h = refl
any_true false false false true h = refl
any_true false false false false (inl h) = h
any_true false false false false (inr (inl h)) = h
any_true false false false false (inr (inr (inl h))) = h
any_true false false false false (inr (inr (inr h))) = h

second_true : (a b : Bool) → b ≡ true → (a || b) ≡ true
second_true true b h = refl
second_true false b h = h

by_so_many : (n k : ℕ) (bytes : List ℕ) → length bytes + k ≤ n → Filled bytes k → goes_on_by n bytes k ≡ true
by_so_many n k bytes room f = let e : nat_le (length bytes + k) n ≡ true = grind (arith, nat_tests) in rw e (by_fill f) where
  by_fill : Filled bytes k → (is_utf8 (bytes ++ replicate k 128) || is_utf8 (bytes ++ replicate k 191)) ≡ true
  by_fill (inl t) = let i = is_utf8-from_IsUtf8 (bytes ++ replicate k 128) t in rw i refl
  by_fill (inr t) = let i = is_utf8-from_IsUtf8 (bytes ++ replicate k 191) t in second_true (is_utf8 (bytes ++ replicate k 128)) (is_utf8 (bytes ++ replicate k 191)) i

pub text_began : (n : ℕ) (bytes more : List ℕ) → length bytes < n → is_utf8 (bytes ++ more) ≡ true
    → length (bytes ++ more) ≡ n → begins_text n bytes ≡ true
unfolding begins_text
text_began n bytes more less text e =
    let t = IsUtf8-from_is_utf8 (bytes ++ more) text in
    let r = cut_text t.0 bytes more t.1.0 t.1.1 in
    let l = length-append bytes more in
    let u = r.2 in
    any_true (goes_on_by n bytes 0) (goes_on_by n bytes 1) (goes_on_by n bytes 2) (goes_on_by n bytes 3)
    (by_count r.0 r.1 (omega (arith, l, e, u)) r.3) where
      by_count : (k : ℕ) → k ≤ 3 → length bytes + k ≤ n → Filled bytes k
          → (goes_on_by n bytes 0 ≡ true) ⊎ ((goes_on_by n bytes 1 ≡ true)
          ⊎ ((goes_on_by n bytes 2 ≡ true) ⊎ (goes_on_by n bytes 3 ≡ true)))
      by_count zero h room f = inl (by_so_many n 0 bytes room f)
      by_count (suc zero) h room f = inr (inl (by_so_many n 1 bytes room f))
      by_count (suc (suc zero)) h room f = inr (inr (inl (by_so_many n 2 bytes room f)))
      by_count (suc (suc (suc zero))) h room f = inr (inr (inr (by_so_many n 3 bytes room f)))
      by_count (suc (suc (suc (suc k)))) h room f = absurd (omega (arith, h))
