use Rattle.std.proofs.Common.{◌≡◌, ℕ, ◌+◌, ◌++◌, length}
use Rattle.tl_column.specs.Runs.{IsRun, times}
use Rattle.tl_column.proofs.runs.merged.Given as goal

abbrev pub invariant-taking : goal.invariant-taking
invariant-taking l = record {
  left : IsRun l.texts (l.run.items ++ l.left);
  right : IsRun l.texts (l.run.items ++ l.right);
  all : (code : ℕ) → times code l.run.items + times code l.left + times code l.right ≡ times code l.fn.left + times code l.fn.right;
}

abbrev pub decreases-taking : goal.decreases-taking
decreases-taking l = length l.left + length l.right
