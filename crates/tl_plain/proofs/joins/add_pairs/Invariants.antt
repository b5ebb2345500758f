use Rattle.std.proofs.Common.{◌≡◌, ◌++◌, map, take}
use Rattle.std.specs.List.{filter_map}
use Rattle.tl_query.specs.Joins.{pair_of}
use Rattle.tl_plain.specs.Keyed.{row_with_id}
use Rattle.tl_plain.proofs.joins.add_pairs.Given as goal

abbrev pub invariant-loop-right : goal.invariant-loop-right
invariant-loop-right l = l.pairs.items ≡ l.initial.pairs.items ++ filter_map (pair_of l.sides.left.pred.now l.sides.right.pred.now l.sides.left.on l.sides.right.on l.sides.span (l.left_id, l.left)) (take l.right-index (map row_with_id l.rights))
