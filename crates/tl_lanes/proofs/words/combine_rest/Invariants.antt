use Rattle.std.proofs.Common.{◌≡◌, ◌++◌, ◌-◌, ◌≤◌, length, take, drop}
use Rattle.std.specs.Simd.Lanes.{zip2}
use Rattle.tl_lanes.proofs.words.combine_rest.Given as goal

abbrev pub invariant-loop-at : goal.invariant-loop-at
invariant-loop-at g l = record {
  from : l.from ≤ l.at;
  within : l.at ≤ length l.left;
  whole : take l.at l.left ++ zip2 g.O.WordOperation.value (drop l.at l.left) (drop l.at l.right)
      ≡ take l.from l.initial.left ++ zip2 g.O.WordOperation.value (drop l.from l.initial.left) (drop l.from l.right);
}

abbrev pub decreases-loop-at : goal.decreases-loop-at
decreases-loop-at g l = length l.left - l.at
