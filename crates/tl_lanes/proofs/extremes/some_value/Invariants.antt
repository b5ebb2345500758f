use Rattle.std.proofs.Common.{◌≡◌, [], take}
use Rattle.tl_lanes.specs.Masks.{picked}
use Rattle.tl_lanes.proofs.extremes.some_value.Given as goal

abbrev pub invariant-loop-j : goal.invariant-loop-j
invariant-loop-j l = picked l.mask (take l.j l.values) ≡ []
