-- The digits of numbers, and the bytes in which they end.
use Rattle.std.proofs.Common.{◌≡◌, ◌∷◌, true≢false, sym, ◌∙◌, refl, pos, negsuc, ℤ, false, int_le, unsigned_abs}
use lib.Dec.{leb-zero}
use Rattle.std.specs.Fmt.{decimal, signed_decimal}

-- a number below 0 is a minus and its digits
pub minus_first : (z : ℤ) → int_le (pos 0) z ≡ false → 45 ∷ decimal (unsigned_abs z) ≡ signed_decimal z
minus_first (pos n) e = absurd (true≢false (sym (leb-zero n) ∙ e))
minus_first (negsuc n) e = refl
