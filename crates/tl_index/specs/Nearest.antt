-- The nearest mark of a table that is not after a version.
use Rattle.std.specs.Prelude.{◌≡◌, ◌≤◌, ℕ, List}
use Rattle.tl_types.specs.declared.commits.Entry.{Entry}
use Rattle.tl_types.specs.Checkpoints.{Checkpoint, checkpoint_at}
use Rattle.tl_types.specs.Legality.{database_behind}
use Rattle.tl_index.specs.Snapshots.{mark_before}

-- the mark is the checkpoint of the table at the mark's version, which is the greatest that is not
-- after this one
pub record IsNearest (entries : List Entry) (table version : ℕ) (mark : Checkpoint) : Type 0 where
  pub of : mark ≡ checkpoint_at (database_behind entries) table mark.version
  pub before : mark.version ≤ version
  pub greatest : mark.version ≡ mark_before entries table version
