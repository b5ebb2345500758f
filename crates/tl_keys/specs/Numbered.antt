-- Items of values, each at the place that is the number of its value.
use Rattle.std.specs.Prelude.{◌≡◌, ℕ, List, length, Some, slice_get}
use Rattle.tl_types.specs.declared.cells.Cell.{Cell}
use Rattle.tl_keys.specs.Keys.{KeyNumbers, number_in, AreApart}

-- each item stands at the number of its value
pub record AreNumbered {X : Type 0} (keys : KeyNumbers) (items : List (Cell × X)) : Type 0 where
  pub apart : AreApart keys
  pub many : length items ≡ keys.count
  pub each : (n : ℕ) (value : Cell) (item : X) → slice_get items n ≡ Some (value, item)
      → number_in keys value ≡ Some n
