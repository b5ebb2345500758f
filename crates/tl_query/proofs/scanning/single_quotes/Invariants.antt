use Rattle.std.proofs.Common.{◌≡◌, ◌++◌, drop, false}
use Rattle.tl_query.specs.Scanning.{single_quotes}
use Rattle.tl_query.proofs.scanning.single_quotes.Given as goal

abbrev pub invariant-loop-byte : goal.invariant-loop-byte
invariant-loop-byte l = l.text.items ++ single_quotes l.kept (drop l.byte-index l.bytes) ≡ single_quotes false l.bytes
