use Rattle.std.proofs.Common.{◌≡◌, ◌+◌, ◌*◌, ◌-◌, ◌≤◌, take, drop}
use Rattle.std.specs.List.{flat_map}
use Rattle.tl_index.specs.Tables.{rows_in}
use Rattle.tl_index.specs.Changes.{chosen_change_of}
use Rattle.tl_index.proofs.changes.changes_of.Given as goal

abbrev pub invariant-runs : goal.invariant-runs
invariant-runs g l = record {
  list : l.changes.items ≡ flat_map (chosen_change_of l.choice (rows_in l.table) l.lapse.old l.lapse.new) (drop l.lapse.from (take l.at l.events));
  begun : l.lapse.from ≤ l.at;
  within : l.at ≤ l.lapse.to;
  steps : l.steps + 3 * l.lapse.from ≤ l.initial.steps + 3 * l.at;
}

abbrev pub decreases-runs : goal.decreases-runs
decreases-runs g l = l.lapse.to - l.at
