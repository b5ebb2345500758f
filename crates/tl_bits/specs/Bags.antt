-- A multiset of whole numbers, as the list of its values with how often each is there.
use Rattle.std.specs.Prelude.{◌≡◌, ℕ, zero, suc, ◌+◌, ◌<◌, ℤ, ◌≤ℤ◌, List, Option, Some, None, unwrap_or, if◌then◌else◌}
use Rattle.std.specs.List.{count_by}
use Rattle.std.specs.Map.{lookup, update_all}
use Rattle.std.specs.Ordering.{int_cmp, int_eq, eq_by_cmp}

-- how often the bag has a value
abbrev pub times : List (ℤ × ℕ) → ℤ → ℕ
times bag value = unwrap_or (lookup (int_eq value) bag) 0

-- the new bag has the value once more, and every other as often as before
abbrev pub AddsOne : List (ℤ × ℕ) → List (ℤ × ℕ) → ℤ → Type 0
AddsOne old new value = (v : ℤ) → times new v ≡ times old v + (if int_eq value v then 1 else 0)

-- the bag has the value and none below it
pub record IsLeast (bag : List (ℤ × ℕ)) (value : ℤ) : Type 0 where
  pub there : 0 < times bag value
  pub below : (v : ℤ) → 0 < times bag v → value ≤ℤ v

-- the bag has the value and none above it
pub record IsGreatest (bag : List (ℤ × ℕ)) (value : ℤ) : Type 0 where
  pub there : 0 < times bag value
  pub above : (v : ℤ) → 0 < times bag v → v ≤ℤ value

-- how often a value is there, none where it is not
abbrev pub some_times : ℕ → Option ℕ
some_times zero = None
some_times (suc n) = Some (suc n)

-- the pairs, of which a later one of a value takes the place of an earlier one, have each of the
-- numbers with how often it is there
abbrev pub AreCounts : List (ℤ × ℕ) → List ℤ → Type 0
AreCounts counts numbers =
    (v : ℤ) → update_all (eq_by_cmp int_cmp) (λ _. None) counts v
    ≡ some_times (count_by (int_eq v) numbers)
