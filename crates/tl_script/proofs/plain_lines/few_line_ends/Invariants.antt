use Rattle.std.proofs.Common.{◌≡◌, ◌+◌, ◌≤◌, drop}
use Rattle.tl_script.specs.PlainLines.{line_ends}
use Rattle.tl_script.proofs.plain_lines.few_line_ends.Given as goal

abbrev pub invariant-loop-byte : goal.invariant-loop-byte
invariant-loop-byte l = (l.count ≤ l.byte-index) × (l.count + line_ends (drop l.byte-index l.bytes) ≡ line_ends l.bytes)
