use Rattle.std.proofs.Common.{◌-◌, ◌+◌, length}
use Rattle.tl_join.proofs.WalkLemmas.{Merging}
use Rattle.tl_join.proofs.sweeping.walk.Given as goal

abbrev pub invariant-merging : goal.invariant-merging
invariant-merging l = Merging l.sides.codes l.first l.lefts l.rights l.i l.j l.left_links l.right_links l.pairs.items

abbrev pub decreases-merging : goal.decreases-merging
decreases-merging l = (length l.lefts - l.i) + (length l.rights - l.j)
