use Rattle.std.proofs.Common.{◌≡◌}
use Rattle.tl_tests_top.proofs.marks.makes_versions.Given as goal

abbrev pub invariant-loop-version : goal.invariant-loop-version
invariant-loop-version g l = (l.pass.table ≡ g.J.Named.table) × (l.share.parts ≡ l.initial.share.parts)
