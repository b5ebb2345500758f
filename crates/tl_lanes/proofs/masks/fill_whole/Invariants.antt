use Rattle.std.proofs.Common.{◌≡◌, ℕ, ◌<◌, map, get_or}
use Rattle.tl_lanes.specs.Masks.{word_of}
use Rattle.tl_lanes.proofs.masks.fill_whole.Given as goal

abbrev pub invariant-loop-i : goal.invariant-loop-i
invariant-loop-i g l = (k : ℕ) → k < l.i → get_or l.out k 0 ≡ word_of (map (g.C.Comparison.test l.test) l.values) k
