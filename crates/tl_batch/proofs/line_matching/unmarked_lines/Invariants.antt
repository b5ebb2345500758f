use Rattle.std.proofs.Common.{◌≡◌, ◌++◌, drop}
use Rattle.tl_batch.specs.Syncing.{unmarked_lines}
use Rattle.tl_batch.proofs.line_matching.unmarked_lines.Given as goal

abbrev pub invariant-loop-i : goal.invariant-loop-i
invariant-loop-i l = l.left.items ++ unmarked_lines (drop l.i l.lines) (drop l.i l.marks) ≡ unmarked_lines l.lines l.marks
