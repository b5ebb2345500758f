use Rattle.std.proofs.Common.{◌≡◌, take}
use Rattle.std.specs.List.{enumerate_from, filter_map, flat_map}
use Rattle.tl_types.specs.History.{with_ids}
use Rattle.tl_query.specs.Joins.{pair_of}
use Rattle.tl_plain.proofs.joins.pairs_by_row.Given as goal

abbrev pub invariant-loop-left_id : goal.invariant-loop-left_id
invariant-loop-left_id l = l.pairs.items ≡ flat_map (λ r. filter_map (pair_of l.sides.left.pred.now l.sides.right.pred.now l.sides.left.on l.sides.right.on l.sides.span r) (with_ids l.sides.right.rows.now)) (enumerate_from 0 (take l.left_id l.sides.left.rows.now))
