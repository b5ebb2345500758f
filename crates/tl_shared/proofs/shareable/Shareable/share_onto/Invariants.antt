use Rattle.std.proofs.Common.{◌≡◌, ◌++◌, take}
use Rattle.tl_shared.proofs.shareable.Shareable.share_onto.Given as goal

abbrev pub invariant-loop-item : goal.invariant-loop-item
invariant-loop-item g l = l.values.items ≡ l.fn.values.items ++ take l.item-index l.items
