-- The runs of a function that keeps its value over stretches of time.
use Rattle.std.proofs.Common.{◌≡◌, ℕ, zero, suc, ◌+◌, ◌<◌, ℤ, pos, negsuc, ◌+ℤ◌, ◌-ℤ◌, ◌≤ℤ◌, ◌<ℤ◌, Bool, true, false, cond, List, [], ◌∷◌, ◌++◌, length, get_or, set, ◌⊎◌, inl, inr, refl, sym, ap, ◌∙◌, arith, eq-eqb, ◌==◌}
use Rattle.std.proofs.lemmas.Cmp.{int_eq_equiv, nat_list_eq_equiv}
use Rattle.std.proofs.lemmas.Bool.{eqb-true}
use Rattle.std.proofs.lemmas.Bool.Decides.{Decides-int_eq}
use Rattle.std.proofs.lemmas.Int.{ints}
use Rattle.std.specs.Ordering.{int_eq}
use Rattle.tl_types.proofs.FoundTables.{same_names}
use Rattle.tl_types.proofs.Lists.{and_left, and_right}
use Rattle.tl_types.specs.declared.answers.Field.{Field}
use Rattle.tl_types.specs.declared.answers.Field.TheVariants as field
use Rattle.tl_types.specs.declared.runs.Run.{Run}
use Rattle.tl_types.specs.Runs.{same_field, add_stretch, ends_with_value, stretch_of, runs_over, count_of, runs_of}

pub same_field-refl : (x : Field) → same_field x x ≡ true
same_field-refl (field.Number i) = int_eq_equiv.refl i
same_field-refl (field.Text t) = nat_list_eq_equiv.refl t
same_field-refl (field.Ratio s c) = rw (int_eq_equiv.refl s, eq-eqb c c refl) refl
same_field-refl field.Empty = refl
same_field-refl field.Forever = refl

-- fields that are the same are equal
pub same_field-is : (x y : Field) → same_field x y ≡ true → x ≡ y
same_field-is (field.Number i) (field.Number j) h = ap field.Number ((Decides-int_eq i j).0 h)
same_field-is (field.Number i) (field.Text u) h = absurd (cc)
same_field-is (field.Number i) (field.Ratio r d) h = absurd (cc)
same_field-is (field.Number i) field.Empty h = absurd (cc)
same_field-is (field.Number i) field.Forever h = absurd (cc)
same_field-is (field.Text t) (field.Number j) h = absurd (cc)
same_field-is (field.Text t) (field.Text u) h = ap field.Text (same_names t u h)
same_field-is (field.Text t) (field.Ratio r d) h = absurd (cc)
same_field-is (field.Text t) field.Empty h = absurd (cc)
same_field-is (field.Text t) field.Forever h = absurd (cc)
same_field-is (field.Ratio s c) (field.Number j) h = absurd (cc)
same_field-is (field.Ratio s c) (field.Text u) h = absurd (cc)
same_field-is (field.Ratio s c) (field.Ratio r d) h = let e = (Decides-int_eq s r).0 (and_left (int_eq s r) (c == d) h) in let f = eqb-true c d (and_right (int_eq s r) (c == d) h) in ap (λ x. field.Ratio x c) e ∙ ap (λ x. field.Ratio r x) f
same_field-is (field.Ratio s c) field.Empty h = absurd (cc)
same_field-is (field.Ratio s c) field.Forever h = absurd (cc)
same_field-is field.Empty (field.Number j) h = absurd (cc)
same_field-is field.Empty (field.Text u) h = absurd (cc)
same_field-is field.Empty (field.Ratio r d) h = absurd (cc)
same_field-is field.Empty field.Empty h = refl
same_field-is field.Empty field.Forever h = absurd (cc)
same_field-is field.Forever (field.Number j) h = absurd (cc)
same_field-is field.Forever (field.Text u) h = absurd (cc)
same_field-is field.Forever (field.Ratio r d) h = absurd (cc)
same_field-is field.Forever field.Empty h = absurd (cc)
same_field-is field.Forever field.Forever h = refl

-- ONE STRETCH MORE

-- a stretch behind runs that end with another stretch is put behind these alone
pub behind : (run next : Run) (runs : List Run) (s t : Run) → add_stretch (run ∷ add_stretch (next ∷ runs) s) t ≡ run ∷ add_stretch (add_stretch (next ∷ runs) s) t
behind run next [] s t = elim (same_field next.value s.value) as (λ b. add_stretch (run ∷ cond b (record next { to = s.to } ∷ []) (next ∷ s ∷ [])) t ≡ run ∷ add_stretch (cond b (record next { to = s.to } ∷ []) (next ∷ s ∷ [])) t) [ true ↦ refl | false ↦ refl ]
behind run next (r ∷ runs) s t = refl

-- two stretches of one value that follow on each other are one
pub add_both : (runs : List Run) (from mid to : ℤ) (value : Field) → add_stretch (add_stretch runs (stretch_of from mid value)) (stretch_of mid to value) ≡ add_stretch runs (stretch_of from to value)
add_both [] from mid to value = rw (same_field-refl value) refl
add_both (run ∷ []) from mid to value = by_test (same_field run.value value) refl where
  by_test : (b : Bool) → same_field run.value value ≡ b → add_stretch (add_stretch (run ∷ []) (stretch_of from mid value)) (stretch_of mid to value) ≡ add_stretch (run ∷ []) (stretch_of from to value)
  by_test true e = rw e (rw e refl)
  by_test false e = rw e (rw (same_field-refl value) refl)
add_both (run ∷ next ∷ runs) from mid to value =
    behind run next runs (stretch_of from mid value) (stretch_of mid to value) ∙ ap (λ rs. run ∷ rs) (add_both (next ∷ runs) from mid to value)

-- a stretch behind runs that end with another stretch of its value
pub add_behind : (runs made : List Run) (from mid begin to stop : ℤ) (value same : Field) → made ≡ add_stretch runs (stretch_of from mid value) → begin ≡ mid → stop ≡ to → same ≡ value → add_stretch made (stretch_of begin stop same) ≡ add_stretch runs (stretch_of from to value)
add_behind runs made from mid begin to stop value same made_is begin_is stop_is same_is =
    ap (λ rs. add_stretch rs (stretch_of begin stop same)) made_is ∙ ap (λ x. add_stretch (add_stretch runs (stretch_of from mid value)) (stretch_of x stop same)) begin_is ∙ ap (λ x. add_stretch (add_stretch runs (stretch_of from mid value)) (stretch_of mid x same)) stop_is ∙ ap (λ x. add_stretch (add_stretch runs (stretch_of from mid value)) (stretch_of mid to x)) same_is ∙ add_both runs from mid to value

-- a function that keeps its value for k + 1 moments adds one stretch
pub stretched : (f : ℤ → Field) (from : ℤ) (n k : ℕ) (value : Field) → ((i : ℕ) → i < suc k → f (from +ℤ pos (n + i)) ≡ value) → runs_over f from (suc (n + k)) ≡ add_stretch (runs_over f from n) (stretch_of (from +ℤ pos n) (from +ℤ pos n +ℤ pos (suc k)) value)
unfolding runs_over
stretched f from n zero value kept =
    let e : n + 0 ≡ n = omega arith in
    let same : f (from +ℤ pos n) ≡ value = ap (λ i. f (from +ℤ pos i)) (sym e) ∙ kept 0 (omega arith) in
    ap (λ m. runs_over f from (suc m)) e ∙ ap (λ v. add_stretch (runs_over f from n) (stretch_of (from +ℤ pos n) (from +ℤ pos n +ℤ pos 1) v)) same
stretched f from n (suc k) value kept =
    let before = stretched f from n k value (λ i l. kept i (omega arith)) in
    let e : n + suc k ≡ suc (n + k) = omega arith in
    let here : f (from +ℤ pos (suc (n + k))) ≡ value = ap (λ i. f (from +ℤ pos i)) (sym e) ∙ kept (suc k) (omega arith) in
    let begins : from +ℤ pos (suc (n + k)) ≡ from +ℤ pos n +ℤ pos (suc k) = omega (arith, ints) in
    let ends : from +ℤ pos (suc (n + k)) +ℤ pos 1 ≡ from +ℤ pos n +ℤ pos (suc (suc k)) = omega (arith, ints) in
    ap (λ m. runs_over f from (suc m)) e ∙ add_behind (runs_over f from n) (runs_over f from (suc (n + k))) (from +ℤ pos n) (from +ℤ pos n +ℤ pos (suc k)) (from +ℤ pos (suc (n + k))) (from +ℤ pos n +ℤ pos (suc (suc k))) (from +ℤ pos (suc (n + k)) +ℤ pos 1) value (f (from +ℤ pos (suc (n + k)))) before begins ends here

-- COUNTS OF MOMENTS

pub count_is : (z : ℤ) → pos 0 ≤ℤ z → pos (count_of z) ≡ z
count_is (pos n) h = refl
count_is (negsuc n) h = absurd (omega (arith, ints))

pub count_none : (z : ℤ) → z ≤ℤ pos 0 → count_of z ≡ 0
count_none (pos n) h = omega (arith, ints)
count_none (negsuc n) h = refl

more_at : (f : ℤ → Field) (from at next : ℤ) (n m k : ℕ) → pos n ≡ at -ℤ from → pos m ≡ next -ℤ from → pos (suc k) ≡ next -ℤ at → ((moment : ℤ) → at ≤ℤ moment → moment <ℤ next → f moment ≡ f at) → runs_over f from m ≡ add_stretch (runs_over f from n) (stretch_of at next (f at))
more_at f from at next n m k e g h kept =
    let whole : m ≡ suc (n + k) = omega (arith, ints) in
    let here : from +ℤ pos n ≡ at = omega (arith, ints) in
    let there : from +ℤ pos n +ℤ pos (suc k) ≡ next = omega (arith, ints) in
    let added = stretched f from n k (f at) (λ i l. kept (from +ℤ pos (n + i)) (omega (arith, ints)) (omega (arith, ints))) in
    ap (runs_over f from) whole ∙ added ∙ ap (λ x. add_stretch (runs_over f from n) (stretch_of x (from +ℤ pos n +ℤ pos (suc k)) (f at))) here ∙ ap (λ x. add_stretch (runs_over f from n) (stretch_of at x (f at))) there

-- where a function keeps its value from one moment to before the next, its runs up to the next are those up to the one with
-- a stretch of that value
pub runs_more : (f : ℤ → Field) (from at next : ℤ) → from ≤ℤ at → at <ℤ next → ((moment : ℤ) → at ≤ℤ moment → moment <ℤ next → f moment ≡ f at) → runs_of f from next ≡ add_stretch (runs_of f from at) (stretch_of at next (f at))
runs_more f from at next past later kept =
    let n = count_is (at -ℤ from) (omega (arith, ints)) in
    let m = count_is (next -ℤ from) (omega (arith, ints)) in
    let k = count_is (next -ℤ at) (omega (arith, ints)) in
    by_count (count_of (next -ℤ at)) k where
      by_count : (k : ℕ) → pos k ≡ next -ℤ at → runs_of f from next ≡ add_stretch (runs_of f from at) (stretch_of at next (f at))
      by_count zero e = absurd (omega (arith, ints))
      by_count (suc k) e = more_at f from at next (count_of (at -ℤ from)) (count_of (next -ℤ from)) k (count_is (at -ℤ from) (omega (arith, ints))) (count_is (next -ℤ from) (omega (arith, ints))) e kept

pub runs_none : (f : ℤ → Field) (from to : ℤ) → to ≤ℤ from → runs_of f from to ≡ []
unfolding runs_over
runs_none f from to h = ap (runs_over f from) (count_none (to -ℤ from) (omega (arith, ints)))

-- THE LOOP OVER STRETCHES

-- the runs so far: those up to a moment of the range
pub record IsMade (f : ℤ → Field) (from to at : ℤ) (runs : List Run) : Type 0 where
  pub past : from ≤ℤ at
  pub within : (at ≤ℤ to) ⊎ (at ≡ from)
  pub made : runs ≡ runs_of f from at

pub none_made : (f : ℤ → Field) (from to at : ℤ) (runs : List Run) → at ≡ from → runs ≡ [] → IsMade f from to at runs
none_made f from to at runs e h = record {
  past = omega (arith, ints);
  within = inr e;
  made = h ∙ sym (runs_none f from at (omega (arith, ints)));
}

pub more_made : (f : ℤ → Field) (from to at next : ℤ) (runs more : List Run) (value : Field) → IsMade f from to at runs → at <ℤ next → next ≤ℤ to → ((moment : ℤ) → at ≤ℤ moment → moment <ℤ next → f moment ≡ f at) → value ≡ f at → more ≡ add_stretch runs (stretch_of at next value) → IsMade f from to next more
more_made f from to at next runs more value before later short kept value_is more_is =
    let past = before.past in
    let made = before.made in
    record {
      past = omega (arith, ints);
      within = inl short;
      made = more_is ∙ ap (λ v. add_stretch runs (stretch_of at next v)) value_is ∙ ap (λ rs. add_stretch rs (stretch_of at next (f at))) made ∙ sym (runs_more f from at next past later kept);
    }

-- APPENDING IN PLACE

pub goes_on : (runs : List Run) (stretch r : Run) (i : ℕ) → ends_with_value runs stretch.value ≡ true → i + 1 ≡ length runs → r ≡ get_or runs i r → set runs i (record r { to = stretch.to }) ≡ add_stretch runs stretch
goes_on [] stretch r i same last is = absurd (cc)
goes_on (run ∷ []) stretch r zero same last is = rw (same, is) refl
goes_on (run ∷ []) stretch r (suc i) same last is = absurd (omega arith)
goes_on (run ∷ next ∷ runs) stretch r zero same last is = absurd (omega arith)
goes_on (run ∷ next ∷ runs) stretch r (suc i) same last is = ap (λ rs. run ∷ rs) (goes_on (next ∷ runs) stretch r i same (omega arith) is)

pub begins : (runs : List Run) (stretch : Run) → ends_with_value runs stretch.value ≡ false → runs ++ stretch ∷ [] ≡ add_stretch runs stretch
begins [] stretch other = refl
begins (run ∷ []) stretch other = rw other refl
begins (run ∷ next ∷ runs) stretch other = ap (λ rs. run ∷ rs) (begins (next ∷ runs) stretch other)

pub last_value : (runs : List Run) (value : Field) (r : Run) (i : ℕ) → i + 1 ≡ length runs → r ≡ get_or runs i r → ends_with_value runs value ≡ same_field r.value value
last_value [] value r i last is = absurd (omega arith)
last_value (run ∷ []) value r zero last is = ap (λ (x : Run). same_field x.value value) (sym is)
last_value (run ∷ []) value r (suc i) last is = absurd (omega arith)
last_value (run ∷ next ∷ runs) value r zero last is = absurd (omega arith)
last_value (run ∷ next ∷ runs) value r (suc i) last is = last_value (next ∷ runs) value r i (omega arith) is

pub ends_some : (runs : List Run) (value : Field) → ends_with_value runs value ≡ true → 0 < length runs
ends_some [] value h = absurd (cc)
ends_some (run ∷ runs) value h = omega arith
