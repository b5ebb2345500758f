-- Masks: lists of words of 64 bits, of which bit j is bit j mod 64 of word j div 64.
use Rattle.std.specs.Prelude.{◌≡◌, ℕ, ◌+◌, ◌*◌, ◌/◌, ◌%◌, ◌<◌, ◌==◌, Bool, true, false, List, [], ◌∷◌, map, take, drop, length, slice_index, slice_index_or, if◌then◌else◌, not, ℤ, ◌≤ℤ◌, int_lt, int_le, All, Contains}
use Rattle.std.specs.List.{range_with_len}
use Rattle.std.specs.Int.{bit_at}
use Rattle.std.specs.Ordering.{int_eq}
use Rattle.std.specs.Simd.Lanes.{mask_l}
use Rattle.tl_lanes.specs.declared.masks.LaneCmp.{LaneCmp}
use Rattle.tl_lanes.specs.declared.masks.LaneCmp.TheVariants.{Eq, Ne, Lt, Le, Gt, Ge}

-- how many words a mask of so many bits has: one for each 64 that are begun
abbrev pub words_for : ℕ → ℕ
words_for n = (n + 63) / 64

-- bit k of a word is set
abbrev pub is_bit : ℕ → ℕ → Bool
is_bit word k = bit_at word k == 1

-- bit j of a mask is set
abbrev pub bit_of : List ℕ → ℕ → Bool
bit_of words j = is_bit (slice_index words (j / 64)) (j % 64)

-- the first n bits of a mask
abbrev pub bits_of : ℕ → List ℕ → List Bool
bits_of n words = map (bit_of words) (range_with_len 0 n)

-- word i of the mask with these bits and no further one
abbrev pub word_of : List Bool → ℕ → ℕ
word_of bits i = mask_l (take 64 (drop (64 * i) bits))

-- the mask with these bits and no further one
abbrev pub mask_of : List Bool → List ℕ
mask_of bits = map (word_of bits) (range_with_len 0 (words_for (length bits)))

-- these are the first bits of the word, of 64, and its further bits are 0
abbrev pub AreBits : List Bool → ℕ → Type 0
AreBits bits word = (k : ℕ) → k < 64 → is_bit word k ≡ slice_index_or bits k false

-- the word is word i of the mask with these bits and no further one
abbrev pub IsWordOf : List Bool → ℕ → ℕ → Type 0
IsWordOf bits i word = (k : ℕ) → k < 64 → is_bit word k ≡ slice_index_or bits (64 * i + k) false

-- the value passes the comparison with the bound
abbrev pub passes : LaneCmp → ℤ → ℤ → Bool
passes Eq value bound = int_eq value bound
passes Ne value bound = not (int_eq value bound)
passes Lt value bound = int_lt value bound
passes Le value bound = int_le value bound
passes Gt value bound = int_lt bound value
passes Ge value bound = int_le bound value

-- the value is the code, or is not
abbrev pub agrees : Bool → ℕ → ℕ → Bool
agrees equal value code = if equal then value == code else not (value == code)

-- the values from place j on whose bit is set
abbrev pub picked_from : {X : Type 0} → List ℕ → ℕ → List X → List X
picked_from mask j [] = []
picked_from mask j (value ∷ values) =
    if bit_of mask j then value ∷ picked_from mask (j + 1) values
    else picked_from mask (j + 1) values

-- the values whose bit is set
abbrev pub picked : {X : Type 0} → List ℕ → List X → List X
picked mask values = picked_from mask 0 values

-- in an order by which the least comes first, or the greatest, a value does not come after another
abbrev pub IsUpTo : Bool → ℤ → ℤ → Type 0
IsUpTo true value other = value ≤ℤ other
IsUpTo false value other = other ≤ℤ value

-- the value is among the values, and is the least of them, or the greatest
pub record IsExtreme (least : Bool) (values : List ℤ) (value : ℤ) : Type 0 where
  pub among : Contains values value
  pub first : All (IsUpTo least value) values
