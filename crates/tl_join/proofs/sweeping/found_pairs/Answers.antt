use Rattle.std.proofs.Common.{subst, w64}
use Rattle.std.proofs.lemmas.Int.{to_z-of_z}
use Rattle.tl_join.specs.Sweep.{AreSame, grid}
use Rattle.tl_join.proofs.sweeping.found_pairs.Goals as goal

pub returns : goal.returns
returns c = subst (λ first. AreSame c.walk.new.pairs.items (grid first c.args.sides.now.lefts.now c.args.sides.now.rights.now)) (to_z-of_z w64 c.args.first c.ranges.first) c.in_ok-walk.ensures
