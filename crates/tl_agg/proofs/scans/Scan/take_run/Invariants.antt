use Rattle.std.proofs.Common.{◌+◌, ◌*◌, ◌≤◌}
use Rattle.tl_agg.specs.Extremes.{TracksAt}
use Rattle.tl_agg.proofs.scans.Scan.take_run.Given as goal

abbrev pub invariant-loop-packed : goal.invariant-loop-packed
invariant-loop-packed g l = record {
  tracks : TracksAt l.self (l.place + l.packed-index) l.at l.extremes;
  steps : l.steps ≤ l.initial.steps + 3 * l.packed-index;
}
