use Rattle.std.proofs.Common.{◌≡◌}
use Rattle.tl_tests_top.proofs.offers.each_holds.Given as goal

abbrev pub invariant-loop-case : goal.invariant-loop-case
invariant-loop-case g l = (l.pass.table ≡ g.J.Named.table) × (l.share.parts ≡ l.initial.share.parts)
