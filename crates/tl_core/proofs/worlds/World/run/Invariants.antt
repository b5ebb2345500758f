use Rattle.std.proofs.Common.{◌≡◌}
use Rattle.tl_core.specs.World.{after_steps}
use Rattle.tl_core.proofs.worlds.World.run.Given as goal

abbrev pub invariant-loop-step : goal.invariant-loop-step
invariant-loop-step l = l.world ≡ after_steps l.fn.self l.yielded
