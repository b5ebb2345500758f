use Rattle.std.proofs.Common.{◌≡◌, ◌+◌, ◌-◌, ◌*◌, ◌≤◌, ◌<◌, drop, length}
use Rattle.tl_types.specs.Events.{place_of}
use Rattle.tl_types.specs.Walks.{standing}
use Rattle.tl_events.specs.Timeline.{Follow}
use Rattle.tl_index.specs.Tables.{rows_in, ends_in}
use Rattle.tl_agg.specs.Extremes.{TracksExtreme}
use Rattle.tl_agg.proofs.scans.Scan.walk_extremes.Given as goal

abbrev pub invariant-versions : goal.invariant-versions
invariant-versions g l = record {
  after : l.self.from ≤ l.at;
  before : l.at < l.self.to;
  tracks : TracksExtreme l.self (standing (rows_in l.self.table) l.at) l.at l.extremes;
  place : l.place ≡ place_of (rows_in l.self.table) l.at;
  follow : Follow (rows_in l.self.table) l.self.table.db.version l.at (drop l.i (ends_in l.self.table));
  steps : l.steps + 5 * place_of (rows_in l.self.table) l.self.from ≤ l.initial.steps + 5 * place_of (rows_in l.self.table) l.at;
}

abbrev pub decreases-versions : goal.decreases-versions
decreases-versions g l = length (ends_in l.self.table) - l.i
