use Rattle.std.proofs.Common.{◌+◌, ◌-◌, ◌*◌, ◌≤◌}
use Rattle.tl_agg.specs.Extremes.{TracksAt}
use Rattle.tl_agg.proofs.scans.Scan.take_events.Given as goal

abbrev pub invariant-runs : goal.invariant-runs
invariant-runs g l = record {
  begun : l.from ≤ l.i;
  within : l.i ≤ l.to;
  tracks : TracksAt l.self l.i l.at l.extremes;
  steps : l.steps ≤ l.initial.steps + 4 * (l.i - l.from);
}

abbrev pub decreases-runs : goal.decreases-runs
decreases-runs g l = l.to - l.i
