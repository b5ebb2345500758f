use Rattle.std.proofs.Common.{◌≡◌, ◌+◌, ◌*◌, ◌≤◌, take}
use Rattle.tl_app.specs.Groups.{event_count, runs_of_groups}
use Rattle.tl_app.specs.Scans.{plan_rows}
use Rattle.tl_app.proofs.groups.runs_of_groups.Given as goal

abbrev pub invariant-loop-group : goal.invariant-loop-group
invariant-loop-group g l = record {
  runs : l.runs.items ≡ runs_of_groups (plan_rows l.groups.store.now l.groups.plan.now) l.groups.plan.now l.from l.to (take l.group-index l.groups.groups.now);
  steps : l.steps ≤ l.initial.steps + 2 * event_count (take l.group-index l.groups.groups.now);
}
