use Rattle.std.proofs.Common.{◌-◌, length}
use Rattle.tl_lanes.proofs.Zipped.{CombinedTo}
use Rattle.tl_lanes.proofs.words.combine_lanes.Given as goal

abbrev pub invariant-loop-left : goal.invariant-loop-left
invariant-loop-left g l = CombinedTo g.O.WordOperation.value l.initial.left l.left l.right l.at

abbrev pub decreases-loop-left : goal.decreases-loop-left
decreases-loop-left g l = length l.left - l.at
