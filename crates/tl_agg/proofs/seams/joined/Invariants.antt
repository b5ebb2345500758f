use Rattle.std.proofs.Common.{◌≡◌}
use Rattle.tl_types.specs.Runs.{seam}
use Rattle.tl_agg.proofs.seams.joined.Given as goal

abbrev pub invariant-loop-run : goal.invariant-loop-run
invariant-loop-run l = l.left.items ≡ seam l.initial.left.items l.yielded
