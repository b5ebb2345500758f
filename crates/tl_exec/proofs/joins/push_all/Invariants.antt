use Rattle.std.proofs.Common.{◌≡◌, ◌++◌, take}
use Rattle.tl_exec.proofs.joins.push_all.Given as goal

abbrev pub invariant-loop-pair : goal.invariant-loop-pair
invariant-loop-pair l = l.whole.items ≡ l.initial.whole.items ++ take l.pair-index l.part
