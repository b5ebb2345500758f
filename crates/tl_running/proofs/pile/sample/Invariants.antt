use Rattle.std.proofs.Common.{◌<◌, ◌-◌}
use Rattle.tl_running.proofs.pile.sample.Given as goal

abbrev pub invariant-samples : goal.invariant-samples
invariant-samples l = 0 < l.step

abbrev pub decreases-samples : goal.decreases-samples
decreases-samples l = l.many - l.place
