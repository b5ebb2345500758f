-- What a source has left.
use Rattle.std.specs.Prelude.{◌≡◌, ℕ, List, [], Option, IfSome}

-- the source has no byte left
abbrev pub IsAtEnd : Option (List ℕ) → Type 0
IsAtEnd left = IfSome left (λ rest. rest ≡ [])
