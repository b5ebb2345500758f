-- Runs of two ranges that follow on each other, put together.
use Rattle.std.proofs.Common.{◌≡◌, ℕ, zero, suc, ◌+◌, ℤ, pos, ◌+ℤ◌, ◌-ℤ◌, ◌≤ℤ◌, Bool, true, false, List, [], ◌∷◌, refl, sym, ap, ◌∙◌, arith}
use Rattle.std.proofs.lemmas.Int.{ints}
use Rattle.tl_types.specs.declared.answers.Field.{Field}
use Rattle.tl_types.specs.declared.runs.Run.{Run}
use Rattle.tl_types.specs.Runs.{same_field, add_stretch, seam, stretch_of, runs_over, count_of, runs_of}
use Rattle.tl_types.proofs.RunLemmas.{same_field-is, behind, count_is}

-- two runs of one value, one behind the other
pub merge_both : (runs : List Run) (r s : Run) → same_field r.value s.value ≡ true → add_stretch (add_stretch runs r) s ≡ add_stretch runs (record r { to = s.to })
merge_both [] r s same = rw same refl
merge_both (run ∷ []) r s same = by_test (same_field run.value r.value) refl where
  by_test : (b : Bool) → same_field run.value r.value ≡ b → add_stretch (add_stretch (run ∷ []) r) s ≡ add_stretch (run ∷ []) (record r { to = s.to })
  by_test true e =
      let h : same_field run.value s.value ≡ true = ap (λ v. same_field v s.value) (same_field-is run.value r.value e) ∙ same in
      rw e (rw h refl)
  by_test false e = rw e (rw same refl)
merge_both (run ∷ next ∷ runs) r s same = behind run next runs r s ∙ ap (λ rs. run ∷ rs) (merge_both (next ∷ runs) r s same)

-- one run more on the right
pub seam_last : (left right : List Run) (s : Run) → seam left (add_stretch right s) ≡ add_stretch (seam left right) s
seam_last left [] s = refl
seam_last left (r ∷ []) s = by_test (same_field r.value s.value) refl where
  by_test : (b : Bool) → same_field r.value s.value ≡ b → seam left (add_stretch (r ∷ []) s) ≡ add_stretch (add_stretch left r) s
  by_test true e = rw e (sym (merge_both left r s e))
  by_test false e = rw e refl
seam_last left (r ∷ next ∷ right) s = seam_last (add_stretch left r) (next ∷ right) s

seam_over : (f : ℤ → Field) (from mid : ℤ) (n m : ℕ) → mid ≡ from +ℤ pos n → seam (runs_over f from n) (runs_over f mid m) ≡ runs_over f from (n + m)
unfolding runs_over
seam_over f from mid n zero at = let e : n + 0 ≡ n = omega arith in ap (runs_over f from) (sym e)
seam_over f from mid n (suc m) at =
    let e : n + suc m ≡ suc (n + m) = omega arith in
    let here : mid +ℤ pos m ≡ from +ℤ pos (n + m) = omega (arith, ints) in
    seam_last (runs_over f from n) (runs_over f mid m) (stretch_of (mid +ℤ pos m) (mid +ℤ pos m +ℤ pos 1) (f (mid +ℤ pos m)))
    ∙ ap (λ rs. add_stretch rs (stretch_of (mid +ℤ pos m) (mid +ℤ pos m +ℤ pos 1) (f (mid +ℤ pos m)))) (seam_over f from mid n m at)
    ∙ ap (λ z. add_stretch (runs_over f from (n + m)) (stretch_of z (z +ℤ pos 1) (f z))) here
    ∙ ap (runs_over f from) (sym e)

-- the runs of a function over two ranges that follow on each other, put together, are those over both
pub seam_runs : (f : ℤ → Field) (from mid to : ℤ) → from ≤ℤ mid → mid ≤ℤ to → seam (runs_of f from mid) (runs_of f mid to) ≡ runs_of f from to
seam_runs f from mid to l h =
    let n = count_is (mid -ℤ from) (omega (arith, ints)) in
    let m = count_is (to -ℤ mid) (omega (arith, ints)) in
    let k = count_is (to -ℤ from) (omega (arith, ints)) in
    let e : count_of (mid -ℤ from) + count_of (to -ℤ mid) ≡ count_of (to -ℤ from) = omega (arith, ints) in
    seam_over f from mid (count_of (mid -ℤ from)) (count_of (to -ℤ mid)) (omega (arith, ints)) ∙ ap (runs_over f from) e
