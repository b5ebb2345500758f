use Rattle.std.proofs.Common.{◌≡◌, length}
use Rattle.tl_csv.specs.ByteOrderMarks.{past_byte_order_marks}
use Rattle.tl_csv.proofs.byte_order_marks.past_byte_order_marks.Given as goal

abbrev pub invariant-loop-behind : goal.invariant-loop-behind
invariant-loop-behind l = past_byte_order_marks l.rest ≡ past_byte_order_marks l.block

abbrev pub decreases-loop-behind : goal.decreases-loop-behind
decreases-loop-behind l = length l.rest
