-- The integers that fields spell.
use Rattle.std.specs.Prelude.{ℕ, ◌^◌, ℤ, pos, neg_ℤ, Bool, ◌&&◌, nat_le, nat_lt, ◌==◌, List, [], ◌∷◌, length, codes, Option, Some, None, if◌then◌else◌}
use Rattle.std.specs.Str.{all_ascii_digits}
use Rattle.std.specs.Str.Parse.{digits_value}
use Rattle.tl_types.specs.Names.{same_bytes}
use Rattle.tl_types.specs.Plain.{forever}

-- one or more digits
abbrev pub are_digits : List ℕ → Bool
are_digits digits = nat_lt 0 (length digits) && all_ascii_digits digits

-- the number that digits spell, where it is below 2 ^ 63
abbrev pub positive : List ℕ → Option ℤ
positive digits =
    if are_digits digits && nat_lt (digits_value 10 digits) (2 ^ 63)
    then Some (pos (digits_value 10 digits))
    else None

-- the number that digits behind a `-` spell, where it is not below -2 ^ 63
abbrev pub negative : List ℕ → Option ℤ
negative digits =
    if are_digits digits && nat_le (digits_value 10 digits) (2 ^ 63)
    then Some (neg_ℤ (pos (digits_value 10 digits)))
    else None

-- the integer that a field spells: an optional `-` or `+` and one or more digits, within 64 bits
abbrev pub integer_of : List ℕ → Option ℤ
integer_of [] = None
integer_of (b ∷ bytes) =
    if b == 45 then negative bytes
    else (if b == 43 then positive bytes else positive (b ∷ bytes))

-- the end of a period that a field spells: an integer, or FOREVER
abbrev pub end_of : List ℕ → Option ℤ
end_of field = if same_bytes field (codes "FOREVER") then Some forever else integer_of field
