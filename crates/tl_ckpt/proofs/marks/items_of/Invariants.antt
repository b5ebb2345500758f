use Rattle.std.proofs.Common.{◌≡◌, take}
use Rattle.tl_ckpt.proofs.marks.items_of.Given as goal

abbrev pub invariant-loop-i : goal.invariant-loop-i
invariant-loop-i l = l.items.items ≡ take l.i l.list
