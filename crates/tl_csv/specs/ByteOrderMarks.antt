-- Byte order marks at the start of a block.
use Rattle.std.specs.Prelude.{ℕ, Bool, ◌&&◌, ◌==◌, List, [], ◌∷◌, if◌then◌else◌}

-- the three bytes of a byte order mark
abbrev pub is_byte_order_mark : ℕ → ℕ → ℕ → Bool
is_byte_order_mark a b c = (a == 239) && (b == 187) && (c == 191)

-- the bytes past the byte order marks at their start
abbrev pub past_byte_order_marks : List ℕ → List ℕ
past_byte_order_marks [] = []
past_byte_order_marks (a ∷ []) = a ∷ []
past_byte_order_marks (a ∷ b ∷ []) = a ∷ b ∷ []
past_byte_order_marks (a ∷ b ∷ c ∷ bytes) =
    if is_byte_order_mark a b c then past_byte_order_marks bytes else a ∷ b ∷ c ∷ bytes
