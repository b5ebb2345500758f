use Rattle.std.proofs.Common.{take}
use Rattle.std.specs.Prelude.{All, Contains}
use Rattle.tl_lanes.specs.Masks.{IsUpTo}
use Rattle.tl_lanes.proofs.extremes.best_lane.Given as goal

abbrev pub invariant-loop-lane : goal.invariant-loop-lane
invariant-loop-lane l = record {
  among : Contains l.lanes l.best;
  first : All (IsUpTo l.least l.best) (take l.lane-index l.lanes);
}
