use Rattle.std.proofs.Common.{◌≡◌, map, Ok}
use Rattle.tl_range.proofs.working.all_ok.Given as goal

abbrev pub invariant-loop-result : goal.invariant-loop-result
invariant-loop-result g l = l.yielded ≡ map Ok l.outs.items
