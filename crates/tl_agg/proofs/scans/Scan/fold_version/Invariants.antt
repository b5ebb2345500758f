use Rattle.std.proofs.Common.{◌+◌, ◌-◌, ◌*◌, ◌≤◌}
use Rattle.tl_agg.specs.Scans.{AllTrack, set_after}
use Rattle.tl_agg.proofs.scans.Scan.fold_version.Given as goal

abbrev pub invariant-runs : goal.invariant-runs
invariant-runs g l = record {
  begun : l.from ≤ l.i;
  within : l.i ≤ l.to;
  tracks : AllTrack l.self (set_after l.self.table l.i) l.at l.groups;
  steps : l.steps ≤ l.initial.steps + 4 * (l.i - l.from);
}

abbrev pub decreases-runs : goal.decreases-runs
decreases-runs g l = l.to - l.i
