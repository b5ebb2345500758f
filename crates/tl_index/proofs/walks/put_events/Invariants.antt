use Rattle.std.proofs.Common.{◌≡◌, take}
use Rattle.tl_types.specs.Walks.{after_events}
use Rattle.tl_index.proofs.walks.put_events.Given as goal

abbrev pub invariant-loop-packed : goal.invariant-loop-packed
invariant-loop-packed l = l.set ≡ after_events l.initial.set (take l.packed-index l.events)
