use Rattle.std.proofs.Common.{pos}
use Rattle.tl_watch.proofs.SumLemmas.{short_more}
use Rattle.tl_watch.proofs.sums.all_short.Goals as goal

pub loop-value-preserved : goal.loop-value-preserved
loop-value-preserved c = short_more c.args.values.now c.loop-value.value-index c.number-read.result (pos 0) c.loop-value-test.true c.number-read.ensures.value c.number-read.ensures.short c.loop-value.invariant
