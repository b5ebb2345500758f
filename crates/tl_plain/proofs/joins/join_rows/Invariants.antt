use Rattle.std.proofs.Common.{◌≡◌, map, take}
use Rattle.tl_query.specs.Answers.{pair_fields}
use Rattle.tl_plain.proofs.joins.join_rows.Given as goal

abbrev pub invariant-loop-pair : goal.invariant-loop-pair
invariant-loop-pair l = l.answer.items ≡ map (pair_fields l.sides.left.rows.now l.sides.right.rows.now) (take l.pair-index l.pair-items)
