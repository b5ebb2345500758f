use Rattle.std.proofs.Common.{◌≡◌, ◌+◌, ◌*◌, ◌≤◌, ◌++◌, take}
use Rattle.std.specs.List.{flat_map}
use Rattle.tl_index.specs.Tables.{rows_in}
use Rattle.tl_index.specs.Changes.{chosen_change_of}
use Rattle.tl_index.proofs.changes.push_changes.Given as goal

abbrev pub invariant-loop-packed : goal.invariant-loop-packed
invariant-loop-packed g l = record {
  list : l.changes.items ≡ l.initial.changes.items ++ flat_map (chosen_change_of l.choice (rows_in l.table) l.lapse.old l.lapse.new) (take l.packed-index l.events);
  steps : l.steps ≤ l.initial.steps + 2 * l.packed-index;
}
