use Rattle.std.proofs.Common.{◌≡◌, ◌∷◌, ◌++◌, drop}
use Rattle.tl_query.specs.Printing.{double_quotes}
use Rattle.tl_query.proofs.printing.text_constant.Given as goal

abbrev pub invariant-loop-byte : goal.invariant-loop-byte
invariant-loop-byte l = l.bytes.items ++ double_quotes (drop l.byte-index l.text) ≡ 39 ∷ double_quotes l.text
