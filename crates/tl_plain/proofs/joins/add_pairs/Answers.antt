use Rattle.std.proofs.Common.{◌<◌, ◌+◌, length, take, map, arith}
use Rattle.tl_query.specs.Joins.{pair_of}
use Rattle.tl_plain.specs.Keyed.{row_with_id}
use Rattle.tl_plain.proofs.CollectLemmas.{pair_taken, pair_passed, behind_more}
use Rattle.tl_plain.proofs.joins.add_pairs.Goals as goal
use Rattle.tl_plain.proofs.joins.add_pairs.Goals.{in-Some+in_ok-push, in_default}

pub loop-right-preserved : goal.loop-right-preserved
loop-right-preserved c =
    let sides = c.args.sides.now in
    let rights = map row_with_id c.args.rights.now in
    let i = c.loop-right.right-index in
    let right = c.right-item.result in
    let here : i < length c.args.rights.now = omega arith in
    let grown = behind_more row_with_id c.args.rights.now i right here c.right-item.is in
    let h = pair_of sides.left.pred.now sides.right.pred.now sides.left.on sides.right.on sides.span (c.args.left_id, c.args.left.now) in
    elim c.match-pair_of.branch [
      | in-Some+in_ok-push w ↦
          pair_taken h c.args.pairs.now.items c.loop-right.pairs.items c.match-pair_of.pairs.items (take i rights) (take (i + 1) rights) (row_with_id right) w.in-Some.pair (cc (w.pairs-is, w.in_ok-push.ensures.items)) grown w.in-Some.ensures c.loop-right.invariant
      | in_default w ↦
          rw w.pairs-is (pair_passed h c.args.pairs.now.items c.loop-right.pairs.items (take i rights) (take (i + 1) rights) (row_with_id right) grown w.in_default.ensures c.loop-right.invariant)
    ]
