use Rattle.std.proofs.Common.{◌≡◌, ◌*◌, ◌≤◌, ◌-◌, ◌/◌, [], take, length}
use Rattle.tl_lanes.specs.Masks.{picked}
use Rattle.tl_lanes.proofs.extremes.first_word.Given as goal

abbrev pub invariant-loop-i : goal.invariant-loop-i
invariant-loop-i l = record {
  within : 64 * l.i ≤ length l.values;
  none : picked l.mask (take (64 * l.i) l.values) ≡ [];
}

abbrev pub decreases-loop-i : goal.decreases-loop-i
decreases-loop-i l = length l.values / 64 - l.i
