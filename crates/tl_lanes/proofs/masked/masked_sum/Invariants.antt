use Rattle.std.proofs.Common.{◌≡◌, ◌*◌, ◌^◌, take, pos, ◌+ℤ◌, neg_ℤ, ◌≤ℤ◌, fold}
use Rattle.tl_lanes.specs.Masks.{picked}
use Rattle.tl_lanes.proofs.masked.masked_sum.Given as goal

abbrev pub invariant-loop-j : goal.invariant-loop-j
invariant-loop-j l = record {
  sum : l.sum ≡ fold ◌+ℤ◌ (pos 0) (picked l.mask (take l.j l.values));
  low : neg_ℤ (pos (2 ^ 63 * l.j)) ≤ℤ l.sum;
  high : l.sum ≤ℤ pos (2 ^ 63 * l.j);
}
