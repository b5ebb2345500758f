-- The checkpoint of a table of a history.
use Rattle.std.specs.Prelude.{◌≡◌, ◌<◌, ◌≤◌, List, length}
use Rattle.tl_types.specs.declared.commits.Entry.{Entry}
use Rattle.tl_types.specs.Checkpoints.{Checkpoint, checkpoint_at}
use Rattle.tl_types.specs.Legality.{database_behind}
use Rattle.tl_history.specs.Lists.{version_after}

-- the table and the version are there, and this is the checkpoint of the one at the other
pub record IsCheckpoint (entries : List Entry) (checkpoint : Checkpoint) : Type 0 where
  pub there : checkpoint.table < length (database_behind entries).tables
  pub reached : checkpoint.version ≤ version_after entries
  pub value_is : checkpoint
      ≡ checkpoint_at (database_behind entries) checkpoint.table checkpoint.version
