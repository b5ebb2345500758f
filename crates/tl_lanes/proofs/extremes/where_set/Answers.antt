use Rattle.tl_lanes.proofs.LaneSteps.{lane_of_set, length-where_set}
use Rattle.tl_lanes.proofs.extremes.where_set.Goals as goal

pub returns-clause-picked : goal.returns-clause-picked
returns-clause-picked c = λ l below. lane_of_set c.args.word c.args.bits c.args.set c.args.clear 64 l c.requires.long c.requires.set.0 c.requires.clear.0 below (c.requires.bits l below) (c.requires.set.1 l below) (c.requires.clear.1 l below)

pub returns-clause-long : goal.returns-clause-long
returns-clause-long c = length-where_set c.args.word c.args.bits c.args.set c.args.clear 64 c.requires.long c.requires.set.0 c.requires.clear.0
