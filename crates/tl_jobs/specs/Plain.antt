-- What contracts see of a pace.
use Rattle.std.specs.Prelude.{ℕ}

-- by how many workers the work of a query may be shared, and with how many events since its last
-- mark a table gets another
pub record Pace : Type 0 where
  pub workers : ℕ
  pub every : ℕ
