-- Leaving out runs by their values and then putting together what touches is putting together and then leaving out.
use Rattle.std.proofs.Common.{◌≡◌, ◌⊎◌, inl, inr, ℕ, zero, suc, ◌+◌, ◌<◌, ◌++◌, length, get_or, set, pos, ◌+ℤ◌, ◌-ℤ◌, fold, ℤ, ◌≤ℤ◌, ◌<ℤ◌, Bool, true, false, ◌&&◌, cond, List, [], ◌∷◌, refl, sym, ap, ◌∙◌, arith, subst}
use Rattle.std.specs.List.{filter}
use Rattle.std.specs.Ordering.{int_eq}
use Rattle.std.proofs.lemmas.Bool.{cases_Bool}
use Rattle.std.proofs.lemmas.Bool.Decides.{Decides-int_eq}
use Rattle.std.proofs.lemmas.Cmp.{int_eq_equiv}
use Rattle.std.proofs.lemmas.Int.{ints}
use Rattle.tl_types.specs.declared.answers.Field.{Field}
use Rattle.tl_types.specs.declared.runs.Run.{Run}
use Rattle.tl_types.specs.Runs.{same_field, add_stretch, seam, stretch_of, runs_over, count_of, runs_of}
use Rattle.tl_running.specs.Touching.{goes_on_as, add_touching, last_goes_on, Cover}
use Rattle.tl_types.proofs.RunLemmas.{same_field-is, count_is}

cover_after : (from to : ℤ) (rs : List Run) → Cover from to rs → from ≤ℤ to
cover_after from to [] c = omega (arith, ints)
cover_after from to (r ∷ rs) c =
    let a = c.0 in
    let b = c.1 in
    let h = cover_after r.to to rs c.2 in omega (arith, ints)

not_touching : (x y : ℤ) → x <ℤ y → int_eq x y ≡ false
not_touching x y l = by_test (cases_Bool (int_eq x y)) where
  by_test : (int_eq x y ≡ true) ⊎ (int_eq x y ≡ false) → int_eq x y ≡ false
  by_test (inl e) = absurd (let same = (Decides-int_eq x y).0 e in omega (arith, ints))
  by_test (inr e) = e

and_false : (a b : Bool) → b ≡ false → (a && b) ≡ false
and_false true b e = e
and_false false b e = refl

apart : (run s : Run) → run.to <ℤ s.from → add_touching (run ∷ []) s ≡ run ∷ s ∷ []
apart run s l = let e = and_false (same_field run.value s.value) (int_eq run.to s.from) (not_touching run.to s.from l) in rw e refl

module _ (P : Field → Bool) where
  abbrev pub left : List Run → List Run
  left rs = filter (λ (r : Run). P r.value) rs

  -- a run behind a front that is apart from it
  front : (run : Run) (rs : List Run) (s : Run) → run.to <ℤ s.from → add_touching (run ∷ rs) s ≡ run ∷ add_touching rs s
  front run [] s l = apart run s l
  front run (r ∷ rs) s l = refl

  pub left_touching : (from : ℤ) (rs : List Run) (s : Run) → Cover from s.from rs → left (add_stretch rs s) ≡ cond (P s.value) (add_touching (left rs) s) (left rs)
  left_touching from [] s c = refl
  left_touching from (run ∷ []) s c = by_test (cases_Bool (same_field run.value s.value)) (cases_Bool (P s.value)) (cases_Bool (P run.value)) where
    touch : int_eq run.to s.from ≡ true
    touch = subst (λ z. int_eq run.to z ≡ true) c.2 (int_eq_equiv.refl run.to)

    by_test : (same_field run.value s.value ≡ true) ⊎ (same_field run.value s.value ≡ false) → (P s.value ≡ true) ⊎ (P s.value ≡ false) → (P run.value ≡ true) ⊎ (P run.value ≡ false)
        → left (add_stretch (run ∷ []) s) ≡ cond (P s.value) (add_touching (left (run ∷ [])) s) (left (run ∷ []))
    by_test (inl same) (inl p) (inl q) = rw same (rw q (rw p (rw same (rw touch refl))))
    by_test (inl same) (inl p) (inr q) = absurd (let e = ap P (same_field-is run.value s.value same) in cc)
    by_test (inl same) (inr p) (inl q) = absurd (let e = ap P (same_field-is run.value s.value same) in cc)
    by_test (inl same) (inr p) (inr q) = rw same (rw q (rw p refl))
    by_test (inr other) (inl p) (inl q) = rw other (rw q (rw p (rw other refl)))
    by_test (inr other) (inl p) (inr q) = rw other (rw q (rw p refl))
    by_test (inr other) (inr p) (inl q) = rw other (rw q (rw p refl))
    by_test (inr other) (inr p) (inr q) = rw other (rw q (rw p refl))
  left_touching from (run ∷ next ∷ rs) s c =
      by_test (P run.value) (P s.value) (left (add_stretch (next ∷ rs) s)) (left (next ∷ rs)) (left_touching run.to (next ∷ rs) s c.2) where
        before : run.to <ℤ s.from
        before =
            let a = c.2.0 in
            let b = c.2.1 in
            let h = cover_after next.to s.from rs c.2.2 in omega (arith, ints)

        by_test : (p q : Bool) (xs ys : List Run) → xs ≡ cond q (add_touching ys s) ys → cond p (run ∷ xs) xs ≡ cond q (add_touching (cond p (run ∷ ys) ys) s) (cond p (run ∷ ys) ys)
        by_test true true xs ys h = ap (λ zs. run ∷ zs) h ∙ sym (front run ys s before)
        by_test true false xs ys h = ap (λ zs. run ∷ zs) h
        by_test false true xs ys h = h
        by_test false false xs ys h = h

-- A STRETCH MORE COVERS MORE

pub cover_add : (from : ℤ) (rs : List Run) (s : Run) → Cover from s.from rs → s.from <ℤ s.to → Cover from s.to (add_stretch rs s)
cover_add from [] s c l = (sym c, l, refl)
cover_add from (run ∷ []) s c l = by_test (same_field run.value s.value) where
  longer : run.from <ℤ s.to
  longer =
      let a = c.1 in
      let b = c.2 in omega (arith, ints)

  by_test : (b : Bool) → Cover from s.to (cond b (record run { to = s.to } ∷ []) (run ∷ s ∷ []))
  by_test true = (c.0, longer, refl)
  by_test false = (c.0, c.1, (sym c.2, l, refl))
cover_add from (run ∷ next ∷ rs) s c l = (c.0, c.1, cover_add run.to (next ∷ rs) s c.2 l)

plus_none : (z : ℤ) → z ≡ z +ℤ pos 0
plus_none z = omega (arith, ints)

cover_over : (f : ℤ → Field) (from : ℤ) (n : ℕ) → Cover from (from +ℤ pos n) (runs_over f from n)
unfolding runs_over
cover_over f from zero = plus_none from
cover_over f from (suc n) =
    let e : from +ℤ pos n +ℤ pos 1 ≡ from +ℤ pos (suc n) = omega (arith, ints) in
    let l : (from +ℤ pos n) <ℤ (from +ℤ pos n +ℤ pos 1) = omega (arith, ints) in
    subst (λ z. Cover from z (runs_over f from (suc n))) e
    (cover_add from (runs_over f from n) (stretch_of (from +ℤ pos n) (from +ℤ pos n +ℤ pos 1) (f (from +ℤ pos n))) (cover_over f from n) l)

pub cover_runs : (f : ℤ → Field) (from to : ℤ) → from ≤ℤ to → Cover from to (runs_of f from to)
cover_runs f from to l =
    let n = count_is (to -ℤ from) (omega (arith, ints)) in
    let e : from +ℤ pos (count_of (to -ℤ from)) ≡ to = omega (arith, ints) in
    subst (λ z. Cover from z (runs_of f from to)) e (cover_over f from (count_of (to -ℤ from)))

-- the seam of what is left of two lists of runs is what is left of their seam
pub seam_touching : (P : Field → Bool) (from mid to : ℤ) (ls rs : List Run) → Cover from mid ls → Cover mid to rs → left P (seam ls rs) ≡ fold add_touching (left P ls) (left P rs)
seam_touching P from mid to ls [] c d = refl
seam_touching P from mid to ls (r ∷ rs) c d =
    let here : Cover from r.from ls = subst (λ z. Cover from z ls) (sym d.0) c in
    seam_touching P from r.to to (add_stretch ls r) rs (cover_add from ls r here d.1) d.2
    ∙ ap (λ xs. fold add_touching xs (left P rs)) (left_touching P from ls r here)
    ∙ by_test (P r.value) where
      by_test : (b : Bool) → fold add_touching (cond b (add_touching (left P ls) r) (left P ls)) (left P rs) ≡ fold add_touching (left P ls) (cond b (r ∷ left P rs) (left P rs))
      by_test true = refl
      by_test false = refl

-- APPENDING IN PLACE

pub goes_on : (runs : List Run) (stretch r : Run) (i : ℕ) → last_goes_on runs stretch ≡ true → i + 1 ≡ length runs → r ≡ get_or runs i r → set runs i (record r { to = stretch.to }) ≡ add_touching runs stretch
goes_on [] stretch r i same last is = absurd (cc)
goes_on (run ∷ []) stretch r zero same last is = rw (same, is) refl
goes_on (run ∷ []) stretch r (suc i) same last is = absurd (omega arith)
goes_on (run ∷ next ∷ runs) stretch r zero same last is = absurd (omega arith)
goes_on (run ∷ next ∷ runs) stretch r (suc i) same last is = ap (λ rs. run ∷ rs) (goes_on (next ∷ runs) stretch r i same (omega arith) is)

pub begins : (runs : List Run) (stretch : Run) → last_goes_on runs stretch ≡ false → runs ++ stretch ∷ [] ≡ add_touching runs stretch
begins [] stretch other = refl
begins (run ∷ []) stretch other = rw other refl
begins (run ∷ next ∷ runs) stretch other = ap (λ rs. run ∷ rs) (begins (next ∷ runs) stretch other)

pub last_tells : (runs : List Run) (stretch r : Run) (i : ℕ) → i + 1 ≡ length runs → r ≡ get_or runs i r → last_goes_on runs stretch ≡ goes_on_as r stretch
last_tells [] stretch r i last is = absurd (omega arith)
last_tells (run ∷ []) stretch r zero last is = ap (λ (x : Run). goes_on_as x stretch) (sym is)
last_tells (run ∷ []) stretch r (suc i) last is = absurd (omega arith)
last_tells (run ∷ next ∷ runs) stretch r zero last is = absurd (omega arith)
last_tells (run ∷ next ∷ runs) stretch r (suc i) last is = last_tells (next ∷ runs) stretch r i (omega arith) is

pub ends_some : (runs : List Run) (stretch : Run) → last_goes_on runs stretch ≡ true → 0 < length runs
ends_some [] stretch h = absurd (cc)
ends_some (run ∷ runs) stretch h = omega arith
