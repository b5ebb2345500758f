use Rattle.std.proofs.Common.{◌≡◌, ◌≤◌, drop, map, length}
use Rattle.std.specs.Simd.Lanes.{mask_l}
use Rattle.tl_lanes.proofs.masks.rest_word.Given as goal

abbrev pub invariant-loop-at : goal.invariant-loop-at
invariant-loop-at g l = record {
  within : l.at ≤ length l.values;
  behind : l.word ≡ mask_l (map (g.C.Comparison.test l.test) (drop l.at l.values));
}

abbrev pub decreases-loop-at : goal.decreases-loop-at
decreases-loop-at g l = l.at
