use Rattle.std.proofs.Common.{◌-◌, refl, get_or, rules}
use Rattle.tl_join.specs.Chains.{nobody}
use Rattle.tl_join.proofs.ChainLemmas.{steps_down, kept_next, passed_next, following_end}
use Rattle.tl_join.proofs.chains.match_chain.Goals as goal

pub following-smaller-then-stands_at : goal.following-smaller-then-stands_at
following-smaller-then-stands_at c = steps_down _ _ _ _ _ _ _ _ c.following.invariant _ refl (search rules)

pub following-preserved-then-stands_at : goal.following-preserved-then-stands_at
following-preserved-then-stands_at c = kept_next _ _ _ _ _ _ _ _ c.following.invariant _ (get_or c.args.rows.now (get_or c.following.links c.following.slot 0 - 1) nobody) _ refl (search rules) refl (search rules) (search rules)

pub following-preserved : goal.following-preserved
following-preserved c = passed_next _ _ _ _ _ _ _ _ c.following.invariant _ (get_or c.args.rows.now (get_or c.following.links c.following.slot 0 - 1) nobody) _ refl (search rules) refl (search rules) refl

pub returns-clause-pairs : goal.returns-clause-pairs
returns-clause-pairs c = following_end _ _ _ _ _ _ _ _ c.following.invariant (search rules)
