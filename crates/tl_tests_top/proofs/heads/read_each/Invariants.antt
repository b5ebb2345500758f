use Rattle.std.proofs.Common.{◌≡◌}
use Rattle.tl_tests_top.proofs.heads.read_each.Given as goal

abbrev pub invariant-reading : goal.invariant-reading
invariant-reading g l = l.pass.table ≡ l.fn.head
