use Rattle.std.proofs.Common.{◌≡◌, take}
use Rattle.tl_ckpt.specs.Choices.{masked}
use Rattle.tl_ckpt.proofs.lists.masked_events.Given as goal

abbrev pub invariant-loop-event : goal.invariant-loop-event
invariant-loop-event l = l.out.items ≡ masked l.mask (take l.event-index l.events)
