use Rattle.std.proofs.Common.{◌≡◌, ◌++◌, ◌∷◌, drop}
use Rattle.tl_ckpt.specs.Marks.{marks_for}
use Rattle.tl_range.specs.Dividing.{inside}
use Rattle.tl_range.proofs.dividing.bounds_of.Given as goal

abbrev pub invariant-loop-i : goal.invariant-loop-i
invariant-loop-i l = l.bounds.items ++ inside l.last l.to (drop l.i (marks_for l.marks l.table)) ≡ l.from ∷ inside l.from l.to (marks_for l.marks l.table)
