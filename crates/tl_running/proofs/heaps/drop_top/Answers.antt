use Rattle.tl_running.proofs.HeapLemmas.{dropped}
use Rattle.tl_running.proofs.heaps.drop_top.Goals as goal

pub returns-clause-joins : goal.returns-clause-joins
returns-clause-joins c = dropped c.args.pile.now c.pop.new.self c.args.top c.pop.result c.requires c.pop.ensures.top c.pop.ensures.some c.pop.ensures.none
