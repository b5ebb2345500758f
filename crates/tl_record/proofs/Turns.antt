-- Two readers in turn.
use Rattle.std.proofs.Common.{◌≡◌, ◌≢◌, ℕ, List, [], ◌∷◌, ◌++◌, refl, sym, ap, ◌∙◌, subst, Result, Ok, Err, append_assoc}
use Rattle.tl_record.specs.declared.faults.Fault.{Fault}
use Rattle.tl_record.specs.declared.faults.Fault.TheVariants.{Short, Bad}
use Rattle.tl_record.specs.Reading.{Reader, after, onward, in_turn}
use Rattle.tl_record.proofs.Exact.{Reads, SpellsIn, FitsIn}

module _ {A B : Type 0} (first : Reader A) (second : A → Reader B) (s : A → List ℕ) (t : A → B → List ℕ) (F : A → Type 0) (G : A → B → Type 0)
    (one : Reads first s F) (two : (x : A) → F x → Reads (second x) (t x) (G x)) (some : (x : A) → F x → (y : B) × G x y) where
  abbrev P : Type 0
  P = A × B

  again : (p : P) (rest : List ℕ) → FitsIn F G p → in_turn first second (SpellsIn s t p ++ rest) ≡ Ok (p, rest)
  again p rest fits =
      ap (λ l. onward second (first l)) (append_assoc (s p.0) (t p.0 p.1) rest)
      ∙ ap (λ r. onward second r) (one.again p.0 (t p.0 p.1 ++ rest) fits.0)
      ∙ ap (λ r. after p.0 r) ((two p.0 fits.0).again p.1 rest fits.1)

  abbrev ok_of : {X : Type 0} → X → Result X Fault
  ok_of x = Ok x

  same_pair : {X : Type 0} (x y : X) → ok_of x ≡ ok_of y → x ≡ y
  same_pair x y e = ap (ok_or_else x) e where
    ok_or_else : {X : Type 0} → X → Result X Fault → X
    ok_or_else d (Ok z) = z
    ok_or_else d (Err f) = d

  takes_at : (bytes rest : List ℕ) (p : P) (r : Result (A × List ℕ) Fault) → first bytes ≡ r → onward second r ≡ Ok (p, rest) → FitsIn F G p × (bytes ≡ SpellsIn s t p ++ rest)
  takes_at bytes rest p (Err e) is got = absurd (cc)
  takes_at bytes rest p (Ok q) is got = takes_two (second q.0 q.1) refl got where
    takes_two : (r : Result (B × List ℕ) Fault) → second q.0 q.1 ≡ r → after q.0 r ≡ Ok (p, rest) → FitsIn F G p × (bytes ≡ SpellsIn s t p ++ rest)
    takes_two (Err e) that got' = absurd (cc)
    takes_two (Ok u) that got' =
        let f = one.takes bytes q.1 q.0 is in
        let g = (two q.0 f.0).takes q.1 u.1 u.0 that in
        let e : ((q.0, u.0), u.1) ≡ (p, rest) = same_pair ((q.0, u.0), u.1) (p, rest) got' in
        subst (λ (z : P × List ℕ). FitsIn F G z.0 × (bytes ≡ SpellsIn s t z.0 ++ z.1)) e ((f.0, g.0), f.1 ∙ ap (λ l. s q.0 ++ l) g.1 ∙ sym (append_assoc (s q.0) (t q.0 u.0) u.1))

  -- the front and what it may go on with
  longer : (x : A) (rest more : List ℕ) (bytes : List ℕ) → bytes ≡ s x ++ rest → bytes ++ more ≡ s x ++ (rest ++ more)
  longer x rest more bytes is = ap (λ l. l ++ more) is ∙ append_assoc (s x) rest more

  begins_more : (x : A) (more : List ℕ) (y : B) → more ≢ [] → more ++ t x y ≢ []
  begins_more x [] y some_more e = some_more refl
  begins_more x (m ∷ more) y some_more e = absurd (cc)

  short_at : (bytes : List ℕ) (r : Result (A × List ℕ) Fault) → first bytes ≡ r → onward second r ≡ Err Short → (p : P) × (more : List ℕ) × FitsIn F G p × (more ≢ []) × (bytes ++ more ≡ SpellsIn s t p)
  short_at bytes (Err Bad) is got = absurd (cc)
  short_at bytes (Err Short) is got =
      let f = one.short bytes is in let y = some f.0 f.2 in
      ((f.0, y.0), f.1 ++ t f.0 y.0, (f.2, y.1), begins_more f.0 f.1 y.0 f.3, sym (append_assoc bytes f.1 (t f.0 y.0)) ∙ ap (λ l. l ++ t f.0 y.0) f.4)
  short_at bytes (Ok q) is got = short_two (second q.0 q.1) refl got where
    short_two : (r : Result (B × List ℕ) Fault) → second q.0 q.1 ≡ r → after q.0 r ≡ Err Short → (p : P) × (more : List ℕ) × FitsIn F G p × (more ≢ []) × (bytes ++ more ≡ SpellsIn s t p)
    short_two (Ok u) that got' = absurd (cc)
    short_two (Err Bad) that got' = absurd (cc)
    short_two (Err Short) that got' =
        let f = one.takes bytes q.1 q.0 is in
        let g = (two q.0 f.0).short q.1 that in
        ((q.0, g.0), g.1, (f.0, g.2), g.3, longer q.0 q.1 g.1 bytes f.1 ∙ ap (λ l. s q.0 ++ l) g.4)

  bad_at : (bytes : List ℕ) (r : Result (A × List ℕ) Fault) → first bytes ≡ r → onward second r ≡ Err Bad → (p : P) (more rest : List ℕ) → FitsIn F G p → bytes ++ more ≢ SpellsIn s t p ++ rest
  bad_at bytes (Err Short) is got p more rest fits e = absurd (cc)
  bad_at bytes (Err Bad) is got p more rest fits e = one.bad bytes is p.0 more (t p.0 p.1 ++ rest) fits.0 (e ∙ append_assoc (s p.0) (t p.0 p.1) rest)
  bad_at bytes (Ok q) is got p more rest fits e = bad_two (second q.0 q.1) refl got where
    bad_two : (r : Result (B × List ℕ) Fault) → second q.0 q.1 ≡ r → after q.0 r ≡ Err Bad → ⊥
    bad_two (Ok u) that got' = absurd (cc)
    bad_two (Err Short) that got' = absurd (cc)
    bad_two (Err Bad) that got' =
        let f = one.takes bytes q.1 q.0 is in
        let here = one.again q.0 (q.1 ++ more) f.0 in
        let there = one.again p.0 (t p.0 p.1 ++ rest) fits.0 in
        let both : s q.0 ++ (q.1 ++ more) ≡ s p.0 ++ (t p.0 p.1 ++ rest) = sym (longer q.0 q.1 more bytes f.1) ∙ (e ∙ append_assoc (s p.0) (t p.0 p.1) rest) in
        let one_value : (q.0, q.1 ++ more) ≡ (p.0, t p.0 p.1 ++ rest) = same_pair (q.0, q.1 ++ more) (p.0, t p.0 p.1 ++ rest) (sym here ∙ (ap first both ∙ there)) in
        let x : q.0 ≡ p.0 = ap (λ z. z.0) one_value in
        (two q.0 f.0).bad q.1 that p.1 more rest (subst (λ z. G z p.1) (sym x) fits.1) (ap (λ z. z.1) one_value ∙ ap (λ z. t z p.1 ++ rest) (sym x))

pub turns : {A B : Type 0} (first : Reader A) (second : A → Reader B) (s : A → List ℕ) (t : A → B → List ℕ) (F : A → Type 0) (G : A → B → Type 0) → Reads first s F → ((x : A) → F x → Reads (second x) (t x) (G x)) → ((x : A) → F x → (y : B) × G x y) → Reads (in_turn first second) (SpellsIn s t) (FitsIn F G)
turns first second s t F G one two some = record {
  again = again first second s t F G one two some;
  takes = λ bytes rest p. takes_at first second s t F G one two some bytes rest p (first bytes) refl;
  short = λ bytes. short_at first second s t F G one two some bytes (first bytes) refl;
  bad = λ bytes. bad_at first second s t F G one two some bytes (first bytes) refl;
}
