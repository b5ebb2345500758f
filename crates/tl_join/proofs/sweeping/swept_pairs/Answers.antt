use Rattle.std.proofs.Common.{◌∙◌, rules, subst, w64}
use Rattle.std.proofs.lemmas.Int.{to_z-of_z}
use Rattle.tl_join.specs.Sweep.{AreSame, grid}
use Rattle.std.proofs.lemmas.List.Sorted.{answers_always}
use Rattle.tl_types.specs.declared.runs.Pair.{Pair}
use Rattle.tl_join.proofs.PairLemmas.{grid_same, walk_sorted}
use Rattle.tl_join.proofs.sweeping.swept_pairs.Goals as goal

pub returns-clause-pairs : goal.returns-clause-pairs
returns-clause-pairs c =
    walk_sorted c.args.first c.args.lefts.now c.args.rights.now c.in_ok-pairs.pairs.items c.sort_unstable_by_key.new.self.items c.requires.left_rows c.requires.right_rows (subst (λ first. AreSame c.in_ok-pairs.pairs.items (grid first c.args.lefts.now c.args.rights.now)) (to_z-of_z w64 c.args.first c.ranges.first) c.in_ok-pairs.ensures)
    (c.sort_unstable_by_key.ensures.sorted (λ (p : Pair). (p.from, p.left, p.right)) (answers_always _ _ _ (λ f a r g h. search rules)))
    c.sort_unstable_by_key.ensures.permutation

pub returns-clause-any_order : goal.returns-clause-any_order
returns-clause-any_order c ls rs left_same right_same left_one right_one =
    walk_sorted c.args.first ls rs c.in_ok-pairs.pairs.items c.sort_unstable_by_key.new.self.items left_one right_one (λ f. (subst (λ first. AreSame c.in_ok-pairs.pairs.items (grid first c.args.lefts.now c.args.rights.now)) (to_z-of_z w64 c.args.first c.ranges.first) c.in_ok-pairs.ensures) f ∙ grid_same c.args.first c.args.lefts.now c.args.rights.now ls rs left_same right_same f)
    (c.sort_unstable_by_key.ensures.sorted (λ (p : Pair). (p.from, p.left, p.right)) (answers_always _ _ _ (λ f a r g h. search rules)))
    c.sort_unstable_by_key.ensures.permutation
