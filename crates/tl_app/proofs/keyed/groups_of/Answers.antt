use Rattle.std.proofs.Common.{rules, subst}
use Rattle.std.specs.List.Sorted.{IsPermutation, IsStableBy}
use Rattle.std.proofs.lemmas.List.Sorted.{answers_always}
use Rattle.tl_app.specs.Groups.{column_rows}
use Rattle.tl_app.proofs.KeyLemmas.{cell_key_before, cell_key_ranks, sorted_by_cell}
use Rattle.tl_app.proofs.keyed.groups_of.Goals as goal

pub returns-clause-groups : goal.returns-clause-groups
returns-clause-groups g c =
    let dealt = c.in_ok-all.ensures.dealt in
    let kept = c.in_ok-groups.ensures in
    let sorted = c.sort_by.new.self.items in
    sorted_by_cell (column_rows c.args.by.now) c.args.by.now.column dealt.keys c.in_ok-all.all.items sorted c.args.events.now dealt.dealt
    (subst (λ gs. IsPermutation gs sorted) kept c.sort_by.ensures.permutation)
    (c.in_ok-sort_by.ensures.sorted cell_key_before cell_key_ranks (answers_always _ _ _ (λ f a r g h. search rules)))
    (subst (λ gs. IsStableBy cell_key_before gs sorted) kept (c.sort_by.ensures.stable cell_key_before cell_key_ranks (answers_always _ _ _ (λ f a r g h. search rules))))
