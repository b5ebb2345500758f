-- Words of 64 bits.
use Rattle.std.specs.Prelude.{ℕ, bit_and}
use Rattle.std.specs.Int.{bit_not, w64}

-- the bits of one word that another has not
abbrev pub and_not : ℕ → ℕ → ℕ
and_not x y = bit_and x (bit_not w64 y)
