use Rattle.std.proofs.Common.{◌≡◌, ◌++◌, take}
use Rattle.tl_batch.specs.Pieces.{over}
use Rattle.tl_batch.proofs.opening.push_over.Given as goal

abbrev pub invariant-loop-period : goal.invariant-loop-period
invariant-loop-period l = l.opens.items ≡ l.fn.opens.items ++ over l.cells (take l.period-index l.periods)
