use Rattle.tl_running.proofs.HeapLemmas.{none_kept, none_left}
use Rattle.tl_running.proofs.heaps.Heaps.none.Goals as goal

pub invariant_of-result : goal.invariant_of-result
invariant_of-result c = none_kept c.none.result c.none-2.result c.none.ensures c.none-2.ensures

pub returns : goal.returns
returns c = none_left c.none.result c.none-2.result c.none.ensures
