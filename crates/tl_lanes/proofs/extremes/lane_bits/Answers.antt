use Rattle.std.proofs.Common.{◌^◌, ◌*◌, ◌%◌, ◌∙◌, arith}
use Rattle.std.proofs.lemmas.List.{length-set}
use Rattle.tl_lanes.proofs.LaneMasks.{words_more}
use Rattle.tl_lanes.proofs.LaneSteps.{small_power}
use Rattle.tl_lanes.proofs.extremes.lane_bits.Goals as goal

pub loop-l-preserved : goal.loop-l-preserved
loop-l-preserved c =
    let l = c.loop-l.l in
    let long = c.loop-l.invariant.long in record {
      long = length-set c.loop-l.bits l (1 * 2 ^ l % 2 ^ 64) ∙ long;
      own = words_more (λ k. 2 ^ k) c.loop-l.bits l (1 * 2 ^ l % 2 ^ 64) (omega arith) c.loop-l.invariant.own (small_power l (omega arith));
    }
