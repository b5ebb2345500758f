-- The order of texts by their bytes.
use Rattle.std.proofs.Common.{◌≡◌, ◌≢◌, ℕ, true, false, List, refl, sym, ap, ◌∙◌}
use Rattle.std.specs.declared.cmp.Ordering.{Ordering}
use Rattle.std.specs.declared.cmp.Ordering.TheVariants.{Less, Equal, Greater}
use Rattle.std.specs.Ordering.{nat_cmp, is_gt, ordering_reverse}
use Rattle.std.specs.Cmp.{IsTotalOrder}
use Rattle.std.specs.Cmp.Lexicographic.{slice_cmp, nat_list_cmp_total}
use Rattle.std.proofs.lemmas.Map.Lookups.{exact_bytes}
use Rattle.tl_column.specs.Runs.{IsUpTo}

abbrev pub order : List ℕ → List ℕ → Ordering
order x y = slice_cmp nat_cmp x y

total : IsTotalOrder (slice_cmp nat_cmp)
total = nat_list_cmp_total

up_to_less_at : (r : Ordering) (x y z : List ℕ) → order x y ≡ r → is_gt r ≡ false → order y z ≡ Less → order x z ≡ Less
up_to_less_at Less x y z e h l = total.trans x y z e l
up_to_less_at Equal x y z e h l = total.congr x y z e ∙ l
up_to_less_at Greater x y z e h l = cc

pub up_to_less : (x y z : List ℕ) → IsUpTo x y → order y z ≡ Less → order x z ≡ Less
up_to_less x y z h l = up_to_less_at (order x y) x y z refl h l

less_from_greater : (x y : List ℕ) → order x y ≡ Greater → order y x ≡ Less
less_from_greater x y g = total.antisymm y x ∙ ap ordering_reverse g

greater_from_less : (x y : List ℕ) → order x y ≡ Less → order y x ≡ Greater
greater_from_less x y l = total.antisymm y x ∙ ap ordering_reverse l

greater_up_to_at : (r : Ordering) (x y z : List ℕ) → order x y ≡ r → is_gt r ≡ false → order x z ≡ Greater → order y z ≡ Greater
greater_up_to_at Less x y z e h g = greater_from_less z y (total.trans z x y (less_from_greater x z g) e)
greater_up_to_at Equal x y z e h g = sym (total.congr x y z e) ∙ g
greater_up_to_at Greater x y z e h g = cc

pub greater_up_to : (x y z : List ℕ) → IsUpTo x y → order x z ≡ Greater → order y z ≡ Greater
greater_up_to x y z h g = greater_up_to_at (order x y) x y z refl h g

up_to_trans_at : (r : Ordering) (x y z : List ℕ) → IsUpTo x y → order y z ≡ r → is_gt r ≡ false → IsUpTo x z
up_to_trans_at Less x y z h e k = ap is_gt (up_to_less x y z h e)
up_to_trans_at Equal x y z h e k =
    ap is_gt (total.antisymm x z ∙ ap ordering_reverse (sym (total.congr y z x e)) ∙ sym (total.antisymm x y)) ∙ h
up_to_trans_at Greater x y z h e k = cc

pub up_to_trans : (x y z : List ℕ) → IsUpTo x y → IsUpTo y z → IsUpTo x z
up_to_trans x y z h k = up_to_trans_at (order y z) x y z h refl k

up_to_from_greater_at : (r : Ordering) (x y : List ℕ) → order x y ≡ r → is_gt r ≡ true → IsUpTo y x
up_to_from_greater_at Less x y e h = cc
up_to_from_greater_at Equal x y e h = cc
up_to_from_greater_at Greater x y e h = ap is_gt (less_from_greater x y e)

-- a text that is behind another has that one before it
pub up_to_from_greater : (x y : List ℕ) → is_gt (order x y) ≡ true → IsUpTo y x
up_to_from_greater x y h = up_to_from_greater_at (order x y) x y refl h

itself_at : (r : Ordering) (x : List ℕ) → order x x ≡ r → r ≡ Equal
itself_at Less x e = let bad : Less ≡ Greater = sym e ∙ total.antisymm x x ∙ ap ordering_reverse e in cc
itself_at Equal x e = refl
itself_at Greater x e = let bad : Greater ≡ Less = sym e ∙ total.antisymm x x ∙ ap ordering_reverse e in cc

pub itself : (x : List ℕ) → order x x ≡ Equal
itself x = itself_at (order x x) x refl

pub same_from_equal : (x y : List ℕ) → order x y ≡ Equal → x ≡ y
same_from_equal x y e = exact_bytes x y e

pub differs_if_less : (x y : List ℕ) → order x y ≡ Less → x ≢ y
differs_if_less x y l = λ same. let bad : Equal ≡ Less = sym (itself x) ∙ ap (λ t. order x t) same ∙ l in cc

pub differs_if_greater : (x y : List ℕ) → order x y ≡ Greater → x ≢ y
differs_if_greater x y g = λ same. let bad : Equal ≡ Greater = sym (itself x) ∙ ap (λ t. order x t) same ∙ g in cc
