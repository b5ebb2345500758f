use Rattle.std.proofs.Common.{◌+◌, ◌-◌, ◌*◌, ◌/◌, ◌≤◌, length}
use Rattle.tl_agg.specs.Kept.{below, size}
use Rattle.tl_agg.specs.Extremes.{TracksExtreme}
use Rattle.tl_agg.proofs.scans.Scan.enter_extremes.Given as goal

abbrev pub invariant-members : goal.invariant-members
invariant-members g l = record {
  within : l.from ≤ length l.start;
  tracks : TracksExtreme l.self (below l.from l.start) l.self.from l.extremes;
  steps : l.steps ≤ l.initial.steps + (3 * size (below l.from l.start) + l.from / 64);
}

abbrev pub decreases-members : goal.decreases-members
decreases-members g l = length l.start - l.from
