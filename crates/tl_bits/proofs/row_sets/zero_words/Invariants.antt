use Rattle.std.proofs.Common.{◌≡◌, ◌≤◌, ◌-◌, replicate}
use Rattle.tl_bits.proofs.row_sets.zero_words.Given as goal

abbrev pub invariant-loop-done : goal.invariant-loop-done
invariant-loop-done l = (l.words.items ≡ replicate l.done 0) × (l.done ≤ l.fn.count)

abbrev pub decreases-loop-done : goal.decreases-loop-done
decreases-loop-done l = l.fn.count - l.done
