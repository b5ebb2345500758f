use Rattle.std.proofs.Common.{◌≡◌, ◌*◌, ◌^◌, take, pos, ◌+ℤ◌, neg_ℤ, ◌≤ℤ◌, fold}
use Rattle.tl_plain.proofs.counting.total.Given as goal

abbrev pub invariant-loop-number : goal.invariant-loop-number
invariant-loop-number l =
    (l.total ≡ fold ◌+ℤ◌ (pos 0) (take l.number-index l.numbers)) × (neg_ℤ (pos (2 ^ 63 * l.number-index)) ≤ℤ l.total) × (l.total ≤ℤ pos (2 ^ 63 * l.number-index))
