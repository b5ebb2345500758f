use Rattle.tl_types.specs.History.{with_ids}
use Rattle.tl_plain.proofs.PairLemmas.{matching_none, matching_some}
use Rattle.tl_plain.proofs.joins.matching_rows.Goals as goal

pub returns-in-Some : goal.returns-in-Some
returns-in-Some c =
    let sides = c.args.sides.now in
    matching_some sides.left.pred.now sides.right.pred.now sides.left.on sides.right.on sides.span c.args.left.now sides.right.rows.now c.args.by_key.now c.rows_with_key.result.now c.in-Some.key.now c.requires c.in-Some.ensures c.rows_with_key.ensures

pub returns-in-None : goal.returns-in-None
returns-in-None c =
    let sides = c.args.sides.now in
    matching_none sides.left.pred.now sides.right.pred.now sides.left.on sides.right.on sides.span c.args.left.now (with_ids sides.right.rows.now) c.in-None.ensures
