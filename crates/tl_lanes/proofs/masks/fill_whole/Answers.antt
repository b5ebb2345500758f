use Rattle.std.proofs.Common.{◌+◌, ◌-◌, ◌*◌, map, sym, ◌∙◌, arith}
use Rattle.tl_lanes.specs.Masks.{word_of}
use Rattle.tl_lanes.proofs.LaneMasks.{words_more, word_of_values}
use Rattle.tl_lanes.proofs.masks.fill_whole.Goals as goal

pub loop-i-preserved : goal.loop-i-preserved
loop-i-preserved g c =
    let test = g.C.Comparison.test c.args.test.now in
    let i = c.loop-i.i in
    words_more (word_of (map test c.args.values.now)) c.loop-i.out i c.word.result (omega arith) c.loop-i.invariant
    (c.word.ensures ∙ sym (word_of_values test c.args.values.now i (64 * i + 64 - 64 * i) (omega arith)))
