-- What contracts see of the passes of a head.
use Rattle.std.specs.Prelude.{List}
use Rattle.atomic_table.specs.Seated.{TableId}
use Rattle.tl_types.specs.declared.commits.Entry.{Entry}

-- a pass: the table of its head, and the entries that it has seen
pub record PassValue : Type 0 where
  pub table : TableId
  pub seen : List Entry

-- the writer's pass: the table of its head, and the entries that are written
pub record WriterValue : Type 0 where
  pub table : TableId
  pub written : List Entry
