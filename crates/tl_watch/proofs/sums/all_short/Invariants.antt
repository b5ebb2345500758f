use Rattle.std.proofs.Common.{take}
use Rattle.tl_running.specs.Standing.{AreShort}
use Rattle.tl_watch.proofs.sums.all_short.Given as goal

abbrev pub invariant-loop-value : goal.invariant-loop-value
invariant-loop-value l = AreShort (take l.value-index l.values)
