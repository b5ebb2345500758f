use Rattle.std.proofs.Common.{ℕ, List, ◌<◌, ◌+◌, length, take, ◌++◌, ap, ◌∙◌, arith}
use Rattle.std.specs.List.{enumerate_from, filter_map}
use Rattle.tl_types.specs.History.{with_ids}
use Rattle.tl_types.specs.declared.runs.Pair.{Pair}
use Rattle.tl_types.specs.Plain as plain
use Rattle.tl_types.proofs.Lists.{enumerate-take}
use Rattle.tl_query.specs.Joins.{pair_of}
use Rattle.tl_plain.proofs.CollectLemmas.{pairs_taken}
use Rattle.tl_plain.proofs.joins.pairs_by_row.Goals as goal

pub loop-left_id-preserved : goal.loop-left_id-preserved
loop-left_id-preserved c =
    let sides = c.args.sides.now in
    let lefts = sides.left.rows.now in
    let i = c.loop-left_id.left_id in
    let left = c.left-item.result in
    let here : i < length lefts = omega arith in
    let h : ℕ × plain.Row → List Pair = λ r. filter_map (pair_of sides.left.pred.now sides.right.pred.now sides.left.on sides.right.on sides.span r) (with_ids sides.right.rows.now) in
    let step = c.in_ok-add_pairs.ensures ∙ ap (λ ps. c.loop-left_id.pairs.items ++ ps) (c.matching_rows-rights.ensures i) in
    pairs_taken h c.loop-left_id.pairs.items c.add_pairs.new.pairs.items (enumerate_from 0 (take i lefts)) (enumerate_from 0 (take (i + 1) lefts)) (i, left) step (enumerate-take lefts i left here c.left-item.is) c.loop-left_id.invariant
