use Rattle.std.proofs.Common.{◌≡◌, map, take}
use Rattle.tl_query.specs.Fields.{item_field}
use Rattle.tl_plain.proofs.fields.row_fields.Given as goal

abbrev pub invariant-loop-item : goal.invariant-loop-item
invariant-loop-item l = l.fields.items ≡ map (item_field l.row) (take l.item-index l.items)
