-- One flag for each small number.
use Rattle.std.specs.Prelude.{ℕ, ◌/◌, ◌%◌, Bool, ◌==◌, List, slice_index_or}
use Rattle.std.specs.Int.{bit_at}

-- the flag of the number is set
abbrev pub has_flag : List ℕ → ℕ → Bool
has_flag flags number = bit_at (slice_index_or flags (number / 64) 0) (number % 64) == 1
