use Rattle.std.proofs.Common.{◌≡◌, ◌≤◌, ◌+◌, ◌++◌, take}
use Rattle.std.specs.List.{filter_map}
use Rattle.tl_join.specs.There.{opened_row}
use Rattle.tl_join.proofs.there.push_opened.Given as goal

abbrev pub invariant-loop-event : goal.invariant-loop-event
invariant-loop-event g l = (l.ids.items ≡ l.initial.ids.items ++ filter_map (opened_row l.keep) (take l.event-index l.events)) × (l.steps ≤ l.initial.steps + l.event-index)
