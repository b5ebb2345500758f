use Rattle.std.proofs.Common.{◌*◌}
use Rattle.tl_lanes.proofs.SumLemmas.{SumsTo}
use Rattle.tl_lanes.proofs.masked.sum_lanes.Given as goal

abbrev pub invariant-loop-i : goal.invariant-loop-i
invariant-loop-i l = SumsTo l.mask l.values l.lows l.highs 8 (8 * l.i)
