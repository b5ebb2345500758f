use Rattle.std.proofs.Common.{◌≡◌, map, take}
use Rattle.tl_query.specs.Checking.{first_of, item_fault}
use Rattle.tl_check.proofs.selects.items_fault.Given as goal

abbrev pub invariant-loop-item : goal.invariant-loop-item
invariant-loop-item l = l.first ≡ first_of (map (item_fault l.schema) (take l.item-index l.items))
