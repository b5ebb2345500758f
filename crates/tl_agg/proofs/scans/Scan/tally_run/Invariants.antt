use Rattle.std.proofs.Common.{◌+◌, ◌*◌, ◌≤◌}
use Rattle.tl_agg.specs.Scans.{AllTrack, set_after, all_summed}
use Rattle.tl_agg.specs.Tallies.{IsTally, count_with, total}
use Rattle.tl_agg.proofs.scans.Scan.tally_run.Given as goal

abbrev pub invariant-loop-packed : goal.invariant-loop-packed
invariant-loop-packed g l = record {
  tracks : AllTrack l.self (set_after l.self.table (l.place + l.packed-index)) l.at (all_summed l.groups (count_with l.groups.all.running.count l.tally) (total l.tally));
  tally : IsTally l.groups.all.running.count l.packed-index l.tally;
  steps : l.steps ≤ l.initial.steps + 2 * l.packed-index;
}
