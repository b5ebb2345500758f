use Rattle.std.proofs.Common.{◌≡◌, ℕ, ◌<◌, ◌^◌, get_or, length}
use Rattle.tl_lanes.proofs.extremes.lane_bits.Given as goal

abbrev pub invariant-loop-l : goal.invariant-loop-l
invariant-loop-l l = record {
  long : length l.bits ≡ 64;
  own : (k : ℕ) → k < l.l → get_or l.bits k 0 ≡ 2 ^ k;
}
