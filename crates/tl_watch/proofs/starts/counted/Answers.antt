use Rattle.tl_watch.proofs.StartLemmas.{counted_stands}
use Rattle.tl_watch.proofs.starts.counted.Goals as goal

pub returns-clause-stands : goal.returns-clause-stands
returns-clause-stands g c = λ db ready. counted_stands c.args.plan.now db c.args.set.now c.count-count.result c.of_sums.result ready c.requires c.count-count.ensures.count c.of_sums.ensures
