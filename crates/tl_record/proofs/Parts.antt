-- Exact readers made of exact readers.
use Rattle.std.proofs.Common.{◌≡◌, ◌≢◌, ℕ, ◌+◌, ◌-◌, ◌<◌, ◌≤◌, Bool, true, false, nat_le, List, [], ◌∷◌, ◌++◌, length, take, drop, refl, sym, ap, ◌∙◌, subst, arith, Result, Ok, Err, if◌then◌else◌}
use Rattle.std.specs.List.{flat_map}
use Rattle.std.proofs.lemmas.Bool.Decides.{nat_tests}
use Rattle.std.proofs.lemmas.List.{take-append-drop, take-append-le, length-append, length-take}
use Rattle.std.proofs.Math.Seq.{take-append_seam, drop-append_seam, take-append-add}
use Rattle.tl_record.specs.declared.faults.Fault.{Fault}
use Rattle.tl_record.specs.declared.faults.Fault.TheVariants.{Short, Bad}
use Rattle.tl_record.specs.Reading.{Reader, in_turn, mapped, behind, cons, judged, cut, block}
use Rattle.tl_record.proofs.Exact.{Reads, SpellsIn, FitsIn}
use Rattle.tl_record.proofs.Turns.{turns}

abbrev pub okay : {X : Type 0} → X → Result X Fault
okay x = Ok x

abbrev value_or : {X : Type 0} → X → Result X Fault → X
value_or d (Ok z) = z
value_or d (Err f) = d

pub same_value : {X : Type 0} (x y : X) → okay x ≡ okay y → x ≡ y
same_value x y e = ap (value_or x) e

-- ANOTHER VALUE OF WHAT IS READ

module _ {A B : Type 0} (read : Reader A) (f : A → B) (g : B → A) (s : A → List ℕ)
    (t : B → List ℕ) (F : A → Type 0) (G : B → Type 0) (one : Reads read s F)
    (out : (x : A) → F x → G (f x) × (t (f x) ≡ s x))
    (back : (y : B) → G y → F (g y) × (f (g y) ≡ y)) where
  spelled_back : (y : B) → G y → t y ≡ s (g y)
  spelled_back y h = let b = back y h in ap t (sym b.1) ∙ (out (g y) b.0).1

  again : (y : B) (rest : List ℕ) → G y → mapped f (read (t y ++ rest)) ≡ Ok (y, rest)
  again y rest h =
      let b = back y h in
      ap (λ l. mapped f (read (l ++ rest))) (spelled_back y h)
      ∙ ap (λ r. mapped f r) (one.again (g y) rest b.0) ∙ ap (λ z. okay (z, rest)) b.1

  takes_at : (bytes rest : List ℕ) (y : B) (r : Result (A × List ℕ) Fault) → read bytes ≡ r
      → mapped f r ≡ Ok (y, rest) → G y × (bytes ≡ t y ++ rest)
  takes_at bytes rest y (Err e) is got = absurd (cc)
  takes_at bytes rest y (Ok q) is got =
      let u = one.takes bytes q.1 q.0 is in
      let o = out q.0 u.0 in
      let e : (f q.0, q.1) ≡ (y, rest) = same_value (f q.0, q.1) (y, rest) got in
      subst (λ (z : B × List ℕ). G z.0 × (bytes ≡ t z.0 ++ z.1)) e
      (o.0, u.1 ∙ ap (λ l. l ++ q.1) (sym o.1))

  short_at : (bytes : List ℕ) (r : Result (A × List ℕ) Fault) → read bytes ≡ r
      → mapped f r ≡ Err Short
      → (y : B) × (more : List ℕ) × G y × (more ≢ []) × (bytes ++ more ≡ t y)
  short_at bytes (Ok q) is got = absurd (cc)
  short_at bytes (Err Bad) is got = absurd (cc)
  short_at bytes (Err Short) is got =
      let u = one.short bytes is in
      let o = out u.0 u.2 in
      (f u.0, u.1, o.0, u.3, u.4 ∙ sym o.1)

  bad_at : (bytes : List ℕ) (r : Result (A × List ℕ) Fault) → read bytes ≡ r
      → mapped f r ≡ Err Bad
      → (y : B) (more rest : List ℕ) → G y → bytes ++ more ≢ t y ++ rest
  bad_at bytes (Ok q) is got y more rest h e = absurd (cc)
  bad_at bytes (Err Short) is got y more rest h e = absurd (cc)
  bad_at bytes (Err Bad) is got y more rest h e =
      one.bad bytes is (g y) more rest (back y h).0 (e ∙ ap (λ l. l ++ rest) (spelled_back y h))

pub maps : {A B : Type 0} (read : Reader A) (f : A → B) (g : B → A) (s : A → List ℕ)
    (t : B → List ℕ) (F : A → Type 0) (G : B → Type 0) → Reads read s F
    → ((x : A) → F x → G (f x) × (t (f x) ≡ s x))
    → ((y : B) → G y → F (g y) × (f (g y) ≡ y)) → Reads (λ bytes. mapped f (read bytes)) t G
maps read f g s t F G one out back = record {
  again = again read f g s t F G one out back;
  takes = λ bytes rest y. takes_at read f g s t F G one out back bytes rest y (read bytes) refl;
  short = λ bytes. short_at read f g s t F G one out back bytes (read bytes) refl;
  bad = λ bytes. bad_at read f g s t F G one out back bytes (read bytes) refl;
}

-- the same reader, its spelling and its facts said in other words
pub restated : {A : Type 0} (read : Reader A) (s t : A → List ℕ) (F G : A → Type 0)
    → Reads read s F → ((x : A) → F x → G x × (t x ≡ s x)) → ((x : A) → G x → F x)
    → Reads read t G
restated read s t F G one out back = record {
  again = λ x rest h.
      ap (λ l. read (l ++ rest)) (out x (back x h)).1 ∙ one.again x rest (back x h);
  takes = λ bytes rest x e.
      let u = one.takes bytes rest x e in
      let o = out x u.0 in
      (o.0, u.1 ∙ ap (λ l. l ++ rest) (sym o.1));
  short = λ bytes e.
      let u = one.short bytes e in
      let o = out u.0 u.2 in
      (u.0, u.1, o.0, u.3, u.4 ∙ sym o.1);
  bad = λ bytes e x more rest h q.
      one.bad bytes e x more rest (back x h) (q ∙ ap (λ l. l ++ rest) (out x (back x h)).1);
}

-- BEHIND A NUMBER

pub behinds : {A : Type 0} (first : Reader ℕ) (second : ℕ → Reader A) (s : ℕ → List ℕ)
    (t : A → List ℕ) (F : ℕ → Type 0) (G : A → Type 0) (tag : A → ℕ) → Reads first s F
    → ((y : A) → G y → F (tag y))
    → ((n : ℕ) → F n → Reads (second n) t (λ y. G y × (tag y ≡ n)))
    → ((n : ℕ) → F n → (y : A) × (G y × (tag y ≡ n)))
    → Reads (behind first second) (λ y. s (tag y) ++ t y) G
behinds first second s t F G tag one inside two some =
    maps (in_turn first second) (λ p. p.1) (λ y. (tag y, y)) (SpellsIn s (λ n. t))
    (λ y. s (tag y) ++ t y) (FitsIn F (λ n y. G y × (tag y ≡ n))) G
    (turns first second s (λ n. t) F (λ n y. G y × (tag y ≡ n)) one two some)
    (λ p fits. (fits.1.0, ap (λ k. s k ++ t p.1) fits.1.1))
    (λ y h. ((inside y h, (h, refl)), refl))

-- LISTS

abbrev pub IsMore : {A : Type 0} → (A → Type 0) → (A → List A → Type 0) → List A → Type 0
IsMore F G [] = ⊥
IsMore F G (x ∷ xs) = F x × G x xs

abbrev pub IsNone : {A : Type 0} → List A → Type 0
IsNone [] = Unit {0}
IsNone (x ∷ xs) = ⊥

abbrev uncons : {A : Type 0} → A → List A → A × List A
uncons d [] = (d, [])
uncons d (x ∷ xs) = (x, xs)

pub none_reads : {A : Type 0} (s : A → List ℕ)
    → Reads (λ bytes. Ok ([], bytes)) (flat_map s) IsNone
none_reads {A = A} s = record {
  again = none_again;
  takes = none_takes;
  short = λ bytes e. absurd (cc);
  bad = λ bytes e x more rest h q. absurd (cc);
} where
  none_again : (xs : List A) (rest : List ℕ) → IsNone xs → okay {X = List A × List ℕ} ([], flat_map s xs ++ rest) ≡ Ok (xs, rest)
  none_again [] rest h = refl
  none_again (x ∷ xs) rest h = absurd h

  none_takes : (bytes rest : List ℕ) (xs : List A) → okay {X = List A × List ℕ} ([], bytes) ≡ Ok (xs, rest) → IsNone xs × (bytes ≡ flat_map s xs ++ rest)
  none_takes bytes rest [] e = (tt, ap (λ z. z.1) (same_value {X = List A × List ℕ} ([], bytes) ([], rest) e))
  none_takes bytes rest (x ∷ xs) e = absurd (let f : [] ≡ x ∷ xs = ap (λ z. z.0) (same_value {X = List A × List ℕ} ([], bytes) (x ∷ xs, rest) e) in cc)

pub more_reads : {A : Type 0} (d : A) (item : Reader A) (next : A → Reader (List A))
    (s : A → List ℕ) (F : A → Type 0) (G : A → List A → Type 0) → Reads item s F
    → ((x : A) → F x → Reads (next x) (flat_map s) (G x))
    → ((x : A) → F x → (xs : List A) × G x xs)
    → Reads (λ bytes. mapped cons (in_turn item next bytes)) (flat_map s) (IsMore F G)
more_reads {A = A} d item next s F G one two some =
    maps (in_turn item next) cons (uncons d) (SpellsIn s (λ x. flat_map s)) (flat_map s) (FitsIn F G)
    (IsMore F G) (turns item next s (λ x. flat_map s) F G one two some) (λ p fits. (fits, refl)) back where
      back : (xs : List A) → IsMore F G xs → FitsIn F G (uncons d xs) × (cons (uncons d xs) ≡ xs)
      back [] h = absurd h
      back (x ∷ xs) h = (h, refl)

-- SO MANY BYTES

module _ (test begins : List ℕ → Bool) (n : ℕ)
    (goes_on : (bytes : List ℕ) → length bytes < n → begins bytes ≡ true
    → (more : List ℕ) × (test (bytes ++ more) ≡ true) × (length (bytes ++ more) ≡ n))
    (begun : (bytes more : List ℕ) → length bytes < n → test (bytes ++ more) ≡ true
    → length (bytes ++ more) ≡ n → begins bytes ≡ true) where
  abbrev IsBlock : List ℕ → Type 0
  IsBlock t = (test t ≡ true) × (length t ≡ n)

  long : (x rest : List ℕ) → length x ≡ n → nat_le n (length (x ++ rest)) ≡ true
  long x rest e = grind (arith, nat_tests, length-append x rest)

  block_again : (x rest : List ℕ) → IsBlock x → block test begins n (x ++ rest) ≡ Ok (x, rest)
  block_again x rest fits =
      let a = long x rest fits.1 in
      let b : take n (x ++ rest) ≡ x = subst (λ k. take k (x ++ rest) ≡ x) fits.1 (take-append_seam x rest) in
      let d : drop n (x ++ rest) ≡ rest = subst (λ k. drop k (x ++ rest) ≡ rest) fits.1 (drop-append_seam x rest) in
      rw (a, b, d, fits.0) refl

  takes_if : (bytes rest x : List ℕ) (t : Bool) → nat_le n (length bytes) ≡ t
      → (if t then judged (test (take n bytes)) (take n bytes) (drop n bytes) else cut (begins bytes)) ≡ Ok (x, rest)
      → IsBlock x × (bytes ≡ x ++ rest)
  takes_if bytes rest x false h e = absurd (no_cut (begins bytes) e) where
    no_cut : (t : Bool) → cut t ≡ okay (x, rest) → ⊥
    no_cut true e = absurd (cc)
    no_cut false e = absurd (cc)
  takes_if bytes rest x true h e = by_test (test (take n bytes)) refl e where
    by_test : (t : Bool) → test (take n bytes) ≡ t → judged t (take n bytes) (drop n bytes) ≡ Ok (x, rest) → IsBlock x × (bytes ≡ x ++ rest)
    by_test true i e =
        let p = same_value (take n bytes, drop n bytes) (x, rest) e in
        let l : n ≤ length bytes = grind (arith, nat_tests) in
        let w : length (take n bytes) ≡ n = omega (arith, length-take n bytes) in
        subst (λ (z : List ℕ × List ℕ). IsBlock z.0 × (bytes ≡ z.0 ++ z.1)) p ((i, w), sym (take-append-drop n bytes))
    by_test false i e = absurd (cc)

  short_if : (bytes : List ℕ) (t : Bool) → nat_le n (length bytes) ≡ t
      → (if t then judged (test (take n bytes)) (take n bytes) (drop n bytes) else cut (begins bytes)) ≡ Err Short
      → (x : List ℕ) × (more : List ℕ) × IsBlock x × (more ≢ []) × (bytes ++ more ≡ x)
  short_if bytes true h e = absurd (never (test (take n bytes)) e) where
    never : (t : Bool) → judged t (take n bytes) (drop n bytes) ≡ Err Short → ⊥
    never true e = absurd (cc)
    never false e = absurd (cc)
  short_if bytes false h e = by_test (begins bytes) refl e where
    less : length bytes < n
    less = grind (arith, nat_tests)

    by_test : (t : Bool) → begins bytes ≡ t → cut {A = List ℕ} t ≡ Err Short → (x : List ℕ) × (more : List ℕ) × IsBlock x × (more ≢ []) × (bytes ++ more ≡ x)
    by_test false i e = absurd (cc)
    by_test true i e =
        let m = goes_on bytes less i in
        (bytes ++ m.0, m.0, (m.1, m.2), (λ z. absurd (omega (arith, less, m.2, length-append bytes m.0, ap length z))), refl)

  bad_if : (bytes : List ℕ) (t : Bool) → nat_le n (length bytes) ≡ t
      → (if t then judged (test (take n bytes)) (take n bytes) (drop n bytes) else cut (begins bytes)) ≡ Err Bad
      → (x more rest : List ℕ) → IsBlock x → bytes ++ more ≢ x ++ rest
  bad_if bytes true h e x more rest fits q =
      let l : n ≤ length bytes = grind (arith, nat_tests) in
      let a : take n (bytes ++ more) ≡ take n bytes = take-append-le n bytes more l in
      let b : take n (x ++ rest) ≡ x = subst (λ k. take k (x ++ rest) ≡ x) fits.1 (take-append_seam x rest) in
      let i : test (take n bytes) ≡ true = ap test (sym a ∙ (ap (take n) q ∙ b)) ∙ fits.0 in
      absurd (let f : judged true (take n bytes) (drop n bytes) ≡ Err Bad = subst (λ t. judged t (take n bytes) (drop n bytes) ≡ Err Bad) i e in cc)
  bad_if bytes false h e x more rest fits q =
      let less : length bytes < n = grind (arith, nat_tests) in
      let a : take n (bytes ++ more) ≡ bytes ++ take (n - length bytes) more = subst (λ j. take j (bytes ++ more) ≡ bytes ++ take (n - length bytes) more) (let e : length bytes + (n - length bytes) ≡ n = omega (arith, less) in e) (take-append-add bytes more (n - length bytes)) in
      let b : take n (x ++ rest) ≡ x = subst (λ k. take k (x ++ rest) ≡ x) fits.1 (take-append_seam x rest) in
      let y : bytes ++ take (n - length bytes) more ≡ x = sym a ∙ (ap (take n) q ∙ b) in
      let i : begins bytes ≡ true = begun bytes (take (n - length bytes) more) less (ap test y ∙ fits.0) (ap length y ∙ fits.1) in
      absurd (let f : cut {A = List ℕ} true ≡ Err Bad = subst (λ t. cut {A = List ℕ} t ≡ Err Bad) i e in cc)

  pub block_reads : Reads (block test begins n) (λ t. t) IsBlock
  block_reads = record {
    again = block_again;
    takes = λ bytes rest x. takes_if bytes rest x (nat_le n (length bytes)) refl;
    short = λ bytes. short_if bytes (nat_le n (length bytes)) refl;
    bad = λ bytes. bad_if bytes (nat_le n (length bytes)) refl;
  }
