use Rattle.std.proofs.Common.{◌≡◌, drop, false}
use Rattle.tl_query.specs.Scanning.{closing_len}
use Rattle.tl_query.proofs.Closing.{further}
use Rattle.tl_query.proofs.scanning.closing_len.Given as goal

abbrev pub invariant-loop-i : goal.invariant-loop-i
invariant-loop-i l = closing_len false l.bytes ≡ further l.i (closing_len l.quoted (drop l.i l.bytes))
