-- What contracts see of an opening.
use Rattle.std.specs.Prelude.{ℕ}
use Rattle.atomic_table.specs.Seated.{TableId}
use Rattle.tl_history.specs.Plain.{History}

-- a history that is to be an engine's, the table of its head, and the name and the parts of the
-- ledger of its commits
pub record Opening (D : Type 0) : Type 0 where
  pub history : History D
  pub table : TableId
  pub ledger : ℕ
  pub parts : ℕ
