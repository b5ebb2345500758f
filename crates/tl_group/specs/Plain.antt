-- What contracts see of a group and of its body.
use Rattle.std.specs.Prelude.{ℕ, List}
use Rattle.tl_types.specs.declared.commits.Entry.{Entry}
use Rattle.tl_types.specs.declared.limits.Limits.{Limits}
use Rattle.tl_journal.specs.Plain as journal

-- the body of the commits that wait, and how many bytes it may become with the room that is taken
pub record GroupBody : Type 0 where
  pub bytes : List ℕ
  pub room : ℕ

-- the journal, the entries of the snapshot, how many commits the journal has, and the limits
pub record Group (D : Type 0) : Type 0 where
  pub journal : journal.Journal D
  pub entries : List Entry
  pub first : ℕ
  pub limits : Limits
