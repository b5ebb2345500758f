use Rattle.std.proofs.Common.{◌≡◌, ◌≤◌, ◌-◌, ◌++◌, ◌∷◌, length, drop}
use Rattle.tl_ckpt.specs.Runs.{lent}
use Rattle.tl_ckpt.proofs.lists.all_lent.Given as goal

abbrev pub invariant-runs : goal.invariant-runs
invariant-runs l = record {
  within : l.i ≤ length l.runs;
  all : lent l.all.items ++ drop l.i l.runs ≡ l.fn.changes ∷ l.runs;
}

abbrev pub decreases-runs : goal.decreases-runs
decreases-runs l = length l.runs - l.i
