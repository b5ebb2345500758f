-- Answers of calls that may run out of memory.
use Rattle.std.specs.Prelude.{◌≡◌, ◌≢◌, Result, Ok, Err}

-- the answer is the one that is meant, or it is the one fault that is free: that memory ran out
abbrev pub IsUnless : {X E : Type 0} → E → Result X E → Result X E → Type 0
IsUnless free (Ok x) meant = meant ≡ Ok x
IsUnless free (Err e) meant = e ≢ free → meant ≡ Err e
