use Rattle.std.proofs.Common.{rules}
use Rattle.std.proofs.lemmas.List.Sorted.{answers_always}
use Rattle.tl_types.specs.declared.runs.Pair.{Pair}
use Rattle.tl_query.proofs.PairOrder.{pairs_sorted}
use Rattle.tl_plain.proofs.joins.joined_pairs.Goals as goal

pub returns : goal.returns
returns c =
    let sides = c.args.sides.now in
    pairs_sorted sides.left.pred.now sides.right.pred.now sides.left.on sides.right.on sides.span sides.left.rows.now sides.right.rows.now c.in_ok-pairs.pairs.items c.sort_by_key.new.self.items c.in_ok-pairs.ensures
    (c.in_ok-sort_by_key.ensures.sorted (λ (p : Pair). (p.from, p.left, p.right)) (answers_always _ _ _ (λ f a r g h. search rules)))
    (c.sort_by_key.ensures.stable (λ (p : Pair). (p.from, p.left, p.right)) (answers_always _ _ _ (λ f a r g h. search rules)))
