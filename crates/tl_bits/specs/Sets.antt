-- A set of row ids as a list: of each row, from 0 on, whether the row is in it.
use Rattle.std.specs.Prelude.{◌≡◌, ℕ, ◌≤◌, ◌<◌, Bool, true, false, List, length, slice_index_or}
use Rattle.tl_types.specs.Events.{ids_from}
use Rattle.tl_lanes.specs.Masks.{is_bit, bit_of}

-- the row is in the set
abbrev pub is_member : List Bool → ℕ → Bool
is_member set row = slice_index_or set row false

-- the ids of the rows in the set, ascending
abbrev pub members : List Bool → List ℕ
members set = ids_from 0 (λ member. member) set

-- no row from one up to another is in the set
abbrev pub IsFree : List Bool → ℕ → ℕ → Type 0
IsFree set from to = (row : ℕ) → from ≤ row → row < to → is_member set row ≡ false

-- the least row of the set that is not below a number
pub record IsNext (set : List Bool) (from row : ℕ) : Type 0 where
  pub not_below : from ≤ row
  pub inside : row < length set
  pub member : is_member set row ≡ true
  pub least : IsFree set from row

-- the lowest bit of a word that is set and not below a number
pub record IsFirstBit (word from k : ℕ) : Type 0 where
  pub not_below : from ≤ k
  pub inside : k < 64
  pub bit : is_bit word k ≡ true
  pub lowest : (j : ℕ) → from ≤ j → j < k → is_bit word j ≡ false

-- the lowest bit of a mask that is set and not below a number
pub record IsNextBit (words : List ℕ) (from row : ℕ) : Type 0 where
  pub not_below : from ≤ row
  pub bit : bit_of words row ≡ true
  pub lowest : (j : ℕ) → from ≤ j → j < row → bit_of words j ≡ false
