-- A list of the numbers of small keys.
use Rattle.std.proofs.Common.{◌≡◌, ℕ, ℤ, pos, Bool, true, false, cond, List, [], Some, None, refl, sym, ap, ◌∙◌}
use Rattle.std.specs.Cmp.{int_eq_equiv}
use Rattle.std.specs.Ordering.{int_eq}
use Rattle.tl_types.specs.declared.cells.Cell.TheVariants as cell
use Rattle.tl_keys.specs.Keys.{int_number}
use Rattle.tl_keys.specs.Small.{AreSmall}
use Rattle.tl_keys.proofs.KeyLemmas.{same_numbers}

-- a key that had no number gets one
pub more_small : (small : List ℕ) (old new : List (ℤ × ℕ)) (number : ℕ) (key : ℤ) → int_number old key ≡ None → ((q : ℤ) → int_number new q ≡ cond (int_eq key q) (Some number) (int_number old q)) → AreSmall small old → AreSmall small new
more_small small old new number key none more are = λ i n is. by_test i n (int_eq key (pos i)) refl (are i n is) where
  by_test : (i n : ℕ) (b : Bool) → int_eq key (pos i) ≡ b → int_number old (pos i) ≡ Some n → int_number new (pos i) ≡ Some n
  by_test i n true e h = absurd (let a : None ≡ Some n = sym none ∙ same_numbers (record { ints = old; texts = []; count = 0 }) (cell.Int key) (cell.Int (pos i)) e ∙ h in cc)
  by_test i n false e h = more (pos i) ∙ ap (λ b. cond b (Some number) (int_number old (pos i))) e ∙ h

pub has_number : (old new : List (ℤ × ℕ)) (number : ℕ) (key : ℤ) → ((q : ℤ) → int_number new q ≡ cond (int_eq key q) (Some number) (int_number old q)) → int_number new key ≡ Some number
has_number old new number key more = more key ∙ ap (λ b. cond b (Some number) (int_number old key)) (int_eq_equiv.refl key)
