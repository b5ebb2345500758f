use Rattle.std.proofs.Common.{◌≡◌}
use Rattle.std.specs.List.{filter}
use Rattle.tl_app.specs.Groups.{has_events}
use Rattle.tl_app.proofs.keyed.with_events.Given as goal

abbrev pub invariant-loop-group : goal.invariant-loop-group
invariant-loop-group l = l.kept.items ≡ filter has_events l.yielded
