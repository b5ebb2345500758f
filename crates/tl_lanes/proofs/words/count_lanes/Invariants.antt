use Rattle.std.proofs.Common.{◌*◌}
use Rattle.tl_lanes.proofs.Counted.{Counted}
use Rattle.tl_lanes.proofs.words.count_lanes.Given as goal

abbrev pub invariant-loop-i : goal.invariant-loop-i
invariant-loop-i l = Counted l.words l.counts 8 (8 * l.i)
