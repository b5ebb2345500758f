-- What code lends: a table that a name means.
use Rattle.std.specs.Prelude.{ℕ, Option, Some, None}
use Rattle.std.specs.Borrow.{Bor}
use Rattle.tl_types.specs.Plain as plain

-- the number and the schema of a table
abbrev pub known : Option (ℕ × Bor plain.Schema) → Option (ℕ × plain.Schema)
known None = None
known (Some t) = Some (t.0, t.1.now)
