use Rattle.std.proofs.Common.{◌+◌, ◌*◌, arith}
use Rattle.tl_lanes.proofs.LaneSteps.{none_more}
use Rattle.tl_lanes.proofs.extremes.first_word.Goals as goal

pub loop-i-preserved : goal.loop-i-preserved
loop-i-preserved c =
    let i = c.loop-i.i in record {
      within = omega arith;
      none = none_more c.args.mask.now c.args.values.now i (64 * (i + 1)) (omega arith) (omega arith) c.if-mask-i-eq0.true c.loop-i.invariant.none;
    }
