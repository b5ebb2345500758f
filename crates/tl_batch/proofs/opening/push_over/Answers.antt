use Rattle.tl_batch.proofs.OpeningLemmas.{one_over}
use Rattle.tl_batch.proofs.opening.push_over.Goals as goal

pub loop-period-preserved : goal.loop-period-preserved
loop-period-preserved c = one_over c.args.cells.now c.in_ok-copy.copy c.args.periods.now c.loop-period.period-index c.period-item.result c.new.result c.args.opens.now.items c.loop-period.opens.items c.push.new.self.items c.loop-period-test.true c.period-item.is c.in_ok-copy.ensures c.new.ensures c.in_ok-push.ensures.items c.loop-period.invariant
