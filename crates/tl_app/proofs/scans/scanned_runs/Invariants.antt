use Rattle.std.proofs.Common.{◌+◌, ◌*◌, ◌-ℤ◌, ◌<◌, ◌≤◌, ◌≤ℤ◌, length, take, slice_index_or, ℕ}
use Rattle.tl_types.specs.Runs.{count_of}
use Rattle.tl_types.specs.declared.events.ValidEvent.{ValidEvent}
use Rattle.tl_types.proofs.RunLemmas.{IsMade}
use Rattle.std.specs.List.{AllByRecursion}
use Rattle.tl_app.specs.Scans.{plan_rows, Holds, open_value, Tells}
use Rattle.tl_app.proofs.scans.scanned_runs.Given as goal

abbrev pub invariant-moments : goal.invariant-moments
invariant-moments g l = record {
  made : IsMade (open_value (plan_rows l.scan.store.now l.scan.plan.now) l.scan.plan.now l.scan.events.now) l.from l.to l.at l.runs.items;
  holds : Holds (plan_rows l.scan.store.now l.scan.plan.now) l.scan.plan.now (take l.i l.scan.events.now) l.running;
  tells : AllByRecursion (Tells (plan_rows l.scan.store.now l.scan.plan.now) l.scan.plan.now l.scan.events.now) l.runs.items;
  within : l.i ≤ length l.scan.events.now;
  front : (k : ℕ) (d : ValidEvent) → k < l.i → (slice_index_or l.scan.events.now k d).time ≤ℤ l.at;
  steps : l.steps ≤ l.initial.steps + 2 * l.i;
}

abbrev pub decreases-moments : goal.decreases-moments
decreases-moments g l = count_of (l.to -ℤ l.at)
