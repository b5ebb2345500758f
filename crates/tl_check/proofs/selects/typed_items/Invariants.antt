use Rattle.std.proofs.Common.{◌≡◌, map, take}
use Rattle.tl_query.specs.Checking.{typed_item_of}
use Rattle.tl_check.proofs.selects.typed_items.Given as goal

abbrev pub invariant-loop-item : goal.invariant-loop-item
invariant-loop-item l = l.typed.items ≡ map (typed_item_of l.schema) (take l.item-index l.items)
