use Rattle.std.proofs.Common.{◌≡◌}
use Rattle.tl_tests_top.proofs.marks.mark_each.Given as goal

abbrev pub invariant-marking : goal.invariant-marking
invariant-marking g l = l.pass.table ≡ g.J.Named.table
