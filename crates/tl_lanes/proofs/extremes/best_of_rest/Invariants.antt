use Rattle.std.proofs.Common.{take}
use Rattle.std.specs.Prelude.{All, Contains}
use Rattle.tl_lanes.specs.Masks.{IsUpTo, picked}
use Rattle.tl_lanes.proofs.extremes.best_of_rest.Given as goal

abbrev pub invariant-loop-j : goal.invariant-loop-j
invariant-loop-j l = record {
  among : Contains (picked l.mask l.values) l.best;
  first : All (IsUpTo l.least l.best) (picked l.mask (take l.j l.values));
}
