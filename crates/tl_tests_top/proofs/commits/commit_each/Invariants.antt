use Rattle.std.proofs.Common.{◌≡◌}
use Rattle.tl_tests_top.proofs.commits.commit_each.Given as goal

abbrev pub invariant-committing : goal.invariant-committing
invariant-committing g l = (l.pass.table ≡ g.J.Named.table) × (l.share.parts ≡ l.initial.share.parts)
