-- Lanes that hold the least, or the greatest, of the values that went by them.
use Rattle.std.specs.Prelude.{ℕ, ◌^◌, ◌<◌, ◌≡◌, List, Bool, length, slice_index, slice_index_or, pos, FitsSigned, if◌then◌else◌, ℤ, int_lt, ◌&&◌, All, Contains}
use Rattle.std.specs.Int.{w64}
use Rattle.tl_lanes.specs.Masks.{is_bit, IsUpTo}

-- the number that a lane holds
abbrev pub lane : List ℤ → ℕ → ℤ
lane lanes l = slice_index_or lanes l (pos 0)

-- each of 64 lanes holds a number of 64 bits
abbrev pub AreLanes : List ℤ → Type 0
AreLanes lanes = (length lanes ≡ 64) × ((l : ℕ) → l < 64 → FitsSigned w64 (lane lanes l))

-- a value comes before another: it is less, or greater
abbrev pub comes_first : Bool → ℤ → ℤ → Bool
comes_first least value other = if least then int_lt value other else int_lt other value

-- each lane has its own bit alone
abbrev pub AreLaneBits : List ℕ → Type 0
AreLaneBits bits = (l : ℕ) → l < 64 → slice_index bits l ≡ 2 ^ l

-- each lane is that of one vector where its bit of the word is set, and else that of the other
abbrev pub ArePicked : ℕ → List ℤ → List ℤ → List ℤ → Type 0
ArePicked word set clear lanes = (l : ℕ) → l < 64
    → lane lanes l ≡ (if is_bit word l then lane set l else lane clear l)

-- each lane is that of the left vector where it comes first, and else that of the right
abbrev pub AreFirst : Bool → List ℤ → List ℤ → List ℤ → Type 0
AreFirst least left right lanes = (l : ℕ) → l < 64 → lane lanes l
    ≡ (if comes_first least (lane left l) (lane right l) then lane left l else lane right l)

-- each lane after a value went by it: the value, where its bit is set and it comes first
abbrev pub AreNext : Bool → ℕ → List ℤ → List ℤ → List ℤ → Type 0
AreNext least word values lanes next = (l : ℕ) → l < 64 → lane next l
    ≡ (if is_bit word l && comes_first least (lane values l) (lane lanes l) then lane values l
    else lane lanes l)

-- each lane holds one of all values, and what is up to every lane is up to each value of a part
pub record Reach (least : Bool) (all part lanes : List ℤ) : Type 0 where
  pub fit : AreLanes lanes
  pub among : (l : ℕ) → l < 64 → Contains all (lane lanes l)
  pub first : (bound : ℤ) → ((l : ℕ) → l < 64 → IsUpTo least bound (lane lanes l))
      → All (IsUpTo least bound) part
