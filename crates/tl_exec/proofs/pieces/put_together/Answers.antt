use Rattle.tl_exec.proofs.PieceLemmas.{none_together, one_together}
use Rattle.tl_exec.proofs.pieces.put_together.Goals as goal

pub loop-part-init : goal.loop-part-init
loop-part-init c = none_together c.new-whole.result c.new-whole.ensures

pub loop-part-preserved : goal.loop-part-preserved
loop-part-preserved c = one_together c.loop-part.yielded c.loop-part.whole c.in-Some.part c.in_ok-whole.whole c.in_ok-whole.ensures.groups c.loop-part.invariant
