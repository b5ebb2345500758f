use Rattle.std.proofs.Common.{◌≡◌, ◌≤◌, ◌+◌, ◌-◌, take, drop}
use Rattle.tl_types.specs.Walks.{after_events}
use Rattle.tl_index.proofs.walks.walk.Given as goal

abbrev pub invariant-runs : goal.invariant-runs
invariant-runs g l = record {
  set : l.set ≡ after_events l.initial.set (drop l.from (take l.at l.events));
  begun : l.from ≤ l.at;
  within : l.at ≤ l.to;
  steps : l.steps + l.from ≡ l.initial.steps + l.at;
}

abbrev pub decreases-runs : goal.decreases-runs
decreases-runs g l = l.to - l.at
