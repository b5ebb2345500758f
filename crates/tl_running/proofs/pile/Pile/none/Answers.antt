use Rattle.tl_running.proofs.PileLemmas.{empty_pile}
use Rattle.tl_running.proofs.pile.Pile.none.Goals as goal

pub invariant_of-result : goal.invariant_of-result
invariant_of-result c = empty_pile c.none.result c.none-2.result _ c.none.ensures c.none-2.ensures.numbers c.none-2.ensures.room
