use Rattle.std.proofs.Common.{◌≡◌, ◌++◌, map}
use Rattle.std.specs.List.{range_with_len}
use Rattle.tl_types.specs.Events.{activation}
use Rattle.tl_events.proofs.event_lists.push_opens.Given as goal

abbrev pub invariant-loop-k : goal.invariant-loop-k
invariant-loop-k l = l.events.items ≡ l.initial.events.items ++ map activation (range_with_len l.first l.k)
