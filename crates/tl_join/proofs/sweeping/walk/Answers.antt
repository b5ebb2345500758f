use Rattle.std.proofs.Common.{refl, rules, subst, w64}
use Rattle.std.proofs.lemmas.Int.{to_z-of_z}
use Rattle.tl_join.specs.Sweep.{AreSame, grid}
use Rattle.tl_join.proofs.WalkLemmas.{merging_start, next_left, next_right, merging_end}
use Rattle.tl_join.proofs.sweeping.walk.Goals as goal

pub merging-init : goal.merging-init
merging-init c = merging_start _ _ _ _ _ _ _ c.requires.none c.requires.left_links c.requires.right_links

pub merging-preserved-then-is_left_next : goal.merging-preserved-then-is_left_next
merging-preserved-then-is_left_next c = next_left _ _ _ _ _ _ _ _ _ _ _ _ c.merging.invariant c.requires.left_order c.requires.right_order c.requires.lefts (c.if-is_left_next.ensures.left refl) c.in_ok-match_row.ensures.pairs c.in_ok-match_row.ensures.kept c.put_front.ensures

pub merging-preserved : goal.merging-preserved
merging-preserved c = next_right _ _ _ _ _ _ _ _ _ _ _ _ c.merging.invariant c.requires.left_order c.requires.right_order c.requires.rights (c.if-is_left_next.ensures.right refl) c.in_ok-match_row-2.ensures.pairs c.in_ok-match_row-2.ensures.kept c.put_front-else-is_left_next.ensures

pub returns : goal.returns
returns c = subst (λ first. AreSame c.merging.pairs.items (grid first c.args.sides.now.lefts.now c.args.sides.now.rights.now)) (to_z-of_z w64 c.args.first c.ranges.first) (merging_end _ _ _ _ _ _ _ _ _ c.merging.invariant (search rules) (search rules))
