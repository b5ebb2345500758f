use Rattle.std.proofs.Common.{arith}
use Rattle.tl_batch.proofs.HoldLemmas.{line_held}
use Rattle.tl_batch.proofs.periods_by_key.covers_of.Goals as goal

pub loop-line-preserved : goal.loop-line-preserved
loop-line-preserved c = line_held c.loop-line.covers c.add.new.self c.args.lines.now c.loop-line.line-index c.line-item.result (omega arith) c.line-item.is c.loop-line.invariant c.in_ok-add.ensures.held c.in_ok-add.ensures.full
