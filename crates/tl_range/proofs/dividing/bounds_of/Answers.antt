use Rattle.std.proofs.Common.{◌∷◌}
use Rattle.tl_ckpt.specs.Marks.{marks_for}
use Rattle.tl_range.specs.Dividing.{inside}
use Rattle.tl_range.proofs.DivideLemmas.{bounds_more}
use Rattle.tl_range.proofs.dividing.bounds_of.Goals as goal

pub loop-i-preserved : goal.loop-i-preserved
loop-i-preserved c =
    let marks = marks_for c.args.marks.now c.args.table in
    bounds_more c.loop-i.bounds.items c.push_inside.new.bounds.items (c.args.from ∷ inside c.args.from c.args.to marks) c.loop-i.last c.in_ok-last.last c.version.result c.args.to c.loop-i.i c.at.result.now marks c.version.ensures c.at.ensures c.in_ok-last.ensures.bounds c.in_ok-last.ensures.last c.loop-i.invariant
