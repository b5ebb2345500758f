use Rattle.std.proofs.Common.{◌≡◌, ◌+◌, length}
use Rattle.tl_journal.proofs.reading.cleared.Given as goal

abbrev pub invariant-loop-left : goal.invariant-loop-left
invariant-loop-left l = length l.bytes.items + l.left ≡ l.fn.len

abbrev pub decreases-loop-left : goal.decreases-loop-left
decreases-loop-left l = l.left
