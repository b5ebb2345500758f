use Rattle.std.proofs.Common.{◌≡◌, take}
use Rattle.tl_csv.specs.Separators.{has_quote}
use Rattle.tl_csv.proofs.lent_blocks.has_quote.Given as goal

abbrev pub invariant-loop-byte : goal.invariant-loop-byte
invariant-loop-byte l = l.found ≡ has_quote (take l.byte-index l.bytes)
