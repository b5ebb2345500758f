use Rattle.std.proofs.Common.{◌+◌, ◌-◌, ◌*◌, ◌/◌, ◌≤◌, length}
use Rattle.tl_agg.specs.Kept.{below, size}
use Rattle.tl_watch.specs.Follows.{rows_begun}
use Rattle.tl_watch.specs.Gathering.{IsGathering}
use Rattle.tl_watch.proofs.starts.take_all.Given as goal

abbrev pub invariant-members : goal.invariant-members
invariant-members g l = record {
  within : l.from ≤ length l.set;
  gathers : IsGathering l.plan l.gathering (rows_begun l.plan l.reader.table.db l.set l.from);
  steps : l.steps ≤ l.initial.steps + (3 * size (below l.from l.set) + l.from / 64);
}

abbrev pub decreases-members : goal.decreases-members
decreases-members g l = length l.set - l.from
