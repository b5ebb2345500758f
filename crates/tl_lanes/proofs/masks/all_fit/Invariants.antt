use Rattle.std.proofs.Common.{ℕ, ◌<◌, get_or, w64}
use Rattle.std.specs.Prelude.{pos, FitsSigned}
use Rattle.tl_lanes.proofs.masks.all_fit.Given as goal

abbrev pub invariant-loop-value : goal.invariant-loop-value
invariant-loop-value l = (k : ℕ) → k < l.value-index → FitsSigned w64 (get_or l.values k (pos 0))
