use Rattle.std.proofs.Common.{◌≡◌, ◌+◌, ◌≤◌, length}
use Rattle.tl_script.specs.PlainLines.{line_ends}
use Rattle.tl_script.proofs.plain_lines.line_ends.Given as goal

abbrev pub invariant-loop-rest : goal.invariant-loop-rest
invariant-loop-rest l = (l.count + length l.rest ≤ length l.bytes) × (l.count + line_ends l.rest ≡ line_ends l.bytes)

abbrev pub decreases-loop-rest : goal.decreases-loop-rest
decreases-loop-rest l = length l.rest
