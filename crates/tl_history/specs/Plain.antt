-- What contracts see of a history.
use Rattle.std.specs.Prelude.{ℕ, List}
use Rattle.tl_types.specs.declared.commits.Entry.{Entry}
use Rattle.tl_types.specs.declared.limits.Limits.{Limits}
use Rattle.tl_journal.specs.Plain as journal

-- the entries, the journal on its disk, the count of faults that the disk had when the journal was
-- opened, and the limits
pub record History (D : Type 0) : Type 0 where
  pub entries : List Entry
  pub journal : journal.Journal D
  pub first_count : ℕ
  pub limits : Limits
