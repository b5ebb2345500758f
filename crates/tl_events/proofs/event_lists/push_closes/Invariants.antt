use Rattle.std.proofs.Common.{◌≡◌, ◌++◌, map, take}
use Rattle.tl_types.specs.Events.{invalidation}
use Rattle.tl_events.proofs.event_lists.push_closes.Given as goal

abbrev pub invariant-loop-row : goal.invariant-loop-row
invariant-loop-row l = l.events.items ≡ l.initial.events.items ++ map invalidation (take l.row-index l.closes)
