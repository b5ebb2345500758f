use Rattle.std.proofs.Common.{arith}
use Rattle.tl_lanes.proofs.LaneMasks.{rest_small, bit_small}
use Rattle.tl_lanes.proofs.masks.rest_word.Goals as goal

pub overflow_mul-word : goal.overflow_mul-word
overflow_mul-word g c =
    let small = rest_small (g.C.Comparison.test c.args.test.now) c.args.values.now c.loop-at.at c.loop-at.word c.loop-at.invariant.behind c.loop-at-test.true c.loop-at.invariant.within c.requires in
    record { fits = omega arith }

pub overflow_add-word : goal.overflow_add-word
overflow_add-word g c =
    let small = rest_small (g.C.Comparison.test c.args.test.now) c.args.values.now c.loop-at.at c.loop-at.word c.loop-at.invariant.behind c.loop-at-test.true c.loop-at.invariant.within c.requires in
    let bit = bit_small c.passes.result in
    let is = c.from.ensures in
    record { fits = omega arith }
