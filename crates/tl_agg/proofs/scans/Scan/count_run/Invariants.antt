use Rattle.std.proofs.Common.{◌+◌, ◌≤◌}
use Rattle.tl_agg.specs.Scans.{AllTrack, set_after, all_recounted}
use Rattle.tl_agg.proofs.scans.Scan.count_run.Given as goal

abbrev pub invariant-loop-packed : goal.invariant-loop-packed
invariant-loop-packed g l = record {
  tracks : AllTrack l.self (set_after l.self.table (l.place + l.packed-index)) l.at (all_recounted l.groups l.count);
  steps : l.steps ≤ l.initial.steps + l.packed-index;
}
