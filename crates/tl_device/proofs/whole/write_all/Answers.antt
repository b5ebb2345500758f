use Rattle.std.proofs.Common.{◌∙◌, take, drop, arith}
use Rattle.std.proofs.Math.Seq.{take-add}
use Rattle.tl_device.proofs.Known.{append_both, spend_both}
use Rattle.tl_device.proofs.whole.write_all.Goals as goal

pub loop-at-preserved : goal.loop-at-preserved
loop-at-preserved g c =
    let sink = g.K.Sink in
    let old = c.args.sink.now in
    let at = c.loop-at.at in
    let number = c.in_ok-at.field-0 in
    let written = c.loop-at.invariant.written in
    let more = c.in_ok-at.ensures.appended in
    let rest = c.split_at.ensures.back in
    let prefix = take-add at number c.args.from.now in
    let both = append_both (sink.written old) (take at c.args.from.now) (take number (drop at c.args.from.now)) in
    let spent = c.loop-at.invariant.spent in
    let spent_more = c.in_ok-at.ensures.spent in
    let spent_both = spend_both (sink.spare old) at number in
    record {
      within = omega (arith, c.in_ok-at.ensures.bound, c.split_at.ensures.back_len);
      written = cc (written, more, rest, prefix, both);
      spent = cc (spent, spent_more, spent_both);
      sure = c.in_ok-at.ensures.sure ∙ c.loop-at.invariant.sure;
    }
