use Rattle.std.proofs.Common.{◌≤◌}
use Rattle.tl_csv.proofs.batches.lines_in.Given as goal

abbrev pub invariant-loop-byte : goal.invariant-loop-byte
invariant-loop-byte l = l.lines ≤ l.byte-index
