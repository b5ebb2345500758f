use Rattle.std.proofs.Common.{◌+◌, ◌≤◌, take}
use Rattle.tl_app.specs.Groups.{column_rows, AreDealt}
use Rattle.tl_app.proofs.keyed.dealt.Given as goal

abbrev pub invariant-loop-event : goal.invariant-loop-event
invariant-loop-event g l = record {
  dealt : AreDealt (column_rows l.by) l.by.column l.keys l.groups.items (take l.event-index l.events);
  steps : l.steps ≤ l.initial.steps + l.event-index;
}
