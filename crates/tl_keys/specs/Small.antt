-- Numbers of small keys, each at the place of its key in a list.
use Rattle.std.specs.Prelude.{◌≡◌, ℕ, suc, ℤ, pos, List, Some, slice_get}
use Rattle.tl_keys.specs.Keys.{int_number}

-- each small key for which the list has one more than a number has that number
abbrev pub AreSmall : List ℕ → List (ℤ × ℕ) → Type 0
AreSmall small ints =
    (i n : ℕ) → slice_get small i ≡ Some (suc n) → int_number ints (pos i) ≡ Some n
