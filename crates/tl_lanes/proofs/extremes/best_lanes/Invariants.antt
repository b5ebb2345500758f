use Rattle.std.proofs.Common.{◌*◌, take, map, to_z, w64}
use Rattle.tl_lanes.specs.Masks.{picked}
use Rattle.tl_lanes.specs.Lanes.{Reach}
use Rattle.tl_lanes.proofs.extremes.best_lanes.Given as goal

abbrev pub invariant-loop-i : goal.invariant-loop-i
invariant-loop-i l = Reach l.least (picked l.mask l.values) (picked l.mask (take (64 * l.i) l.values)) (map (to_z w64) l.lanes)
