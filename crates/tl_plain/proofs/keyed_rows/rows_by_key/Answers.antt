use Rattle.std.proofs.lemmas.List.Sorted.{answers_always}
use Rattle.std.proofs.Common.{rules}
use Rattle.tl_plain.proofs.KeyLemmas.{cell_key_before, cell_key_ranks, sorted_by_cell}
use Rattle.tl_plain.proofs.keyed_rows.rows_by_key.Goals as goal

pub returns : goal.returns
returns c =
    sorted_by_cell c.args.column c.args.rows.now c.in_ok-by_key.by_key.items c.sort_by.new.self.items c.in_ok-by_key.ensures c.sort_by.ensures.permutation
    (c.in_ok-sort_by.ensures.sorted cell_key_before cell_key_ranks (answers_always _ _ _ (λ f a r g h. search rules)))
    (c.sort_by.ensures.stable cell_key_before cell_key_ranks (answers_always _ _ _ (λ f a r g h. search rules)))
