use Rattle.tl_lanes.proofs.Zipped.{zip2_and_not}
use Rattle.tl_lanes.proofs.words.AndNotWordOperation.lanes.Goals as goal

pub returns : goal.returns
returns c = zip2_and_not c.args.left c.args.right
