use Rattle.std.proofs.Common.{◌≡◌, []}
use Rattle.tl_tests.proofs.plain.write_rows.Given as goal

abbrev pub invariant-loop-row : goal.invariant-loop-row
invariant-loop-row l = l.rows.row ≡ []
