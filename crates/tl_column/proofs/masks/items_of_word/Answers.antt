use Rattle.std.proofs.Common.{◌≡◌, ◌*◌, length, min, ap, arith}
use Rattle.tl_column.proofs.WordLemmas.{word_items}
use Rattle.tl_column.proofs.masks.items_of_word.Goals as goal

pub returns-clause-items : goal.returns-clause-items
returns-clause-items g c =
    let from = c.chunk_from-from.result.now in
    let place : 64 * c.from-at.result ≡ 64 * c.args.i = ap (λ k. 64 * k) c.from-at.ensures in
    let most : c.min.result ≡ min 64 (length from) = omega (arith, c.min.ensures) in
    word_items c.args.list.now from c.split_at.result.0.now c.args.i (64 * c.from-at.result) c.min.result place c.chunk_from-from.ensures.items most c.split_at.ensures.front
