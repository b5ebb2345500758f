use Rattle.tl_types.proofs.CheckpointLemmas.{checkpoint_stands}
use Rattle.tl_types.proofs.laws.checkpoints_stand.Goals as goal

pub returns : goal.returns
returns c = checkpoint_stands
