use Rattle.std.proofs.Common.{◌≡◌, ◌≤◌, ◌-◌, ◌++◌, length, drop}
use Rattle.tl_ckpt.specs.Runs.{lent, fronts, backs}
use Rattle.tl_ckpt.proofs.lists.cut.Given as goal

abbrev pub invariant-runs : goal.invariant-runs
invariant-runs l = record {
  within : l.i ≤ length l.runs;
  before : lent l.before.items ++ fronts l.event (drop l.i (lent l.runs)) ≡ fronts l.event (lent l.runs);
  behind : lent l.behind.items ++ backs l.event (drop l.i (lent l.runs)) ≡ backs l.event (lent l.runs);
}

abbrev pub decreases-runs : goal.decreases-runs
decreases-runs l = length l.runs - l.i
