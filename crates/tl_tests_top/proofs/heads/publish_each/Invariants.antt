use Rattle.std.proofs.Common.{◌≡◌}
use Rattle.tl_tests_top.proofs.heads.publish_each.Given as goal

abbrev pub invariant-loop-moment : goal.invariant-loop-moment
invariant-loop-moment g l = (l.writer.table ≡ l.fn.head) × (l.writer.written ≡ l.last)
