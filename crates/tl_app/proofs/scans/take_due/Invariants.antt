use Rattle.std.proofs.Common.{◌+◌, ◌*◌, ◌-◌, ◌<◌, ◌≤◌, ◌≤ℤ◌, length, take, slice_index_or, ℕ}
use Rattle.tl_types.specs.declared.events.ValidEvent.{ValidEvent}
use Rattle.tl_app.specs.Scans.{plan_rows, Holds}
use Rattle.tl_app.proofs.scans.take_due.Given as goal

abbrev pub invariant-taking : goal.invariant-taking
invariant-taking g l = record {
  holds : Holds (plan_rows l.scan.store.now l.scan.plan.now) l.scan.plan.now (take l.i l.scan.events.now) l.running;
  within : l.i ≤ length l.scan.events.now;
  past : l.from ≤ l.i;
  front : (k : ℕ) (d : ValidEvent) → k < l.i → (slice_index_or l.scan.events.now k d).time ≤ℤ l.at;
  steps : l.steps + 2 * l.from ≤ l.initial.steps + 2 * l.i;
}

abbrev pub decreases-taking : goal.decreases-taking
decreases-taking g l = length l.scan.events.now - l.i
