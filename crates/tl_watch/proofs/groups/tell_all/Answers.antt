use Rattle.tl_agg.proofs.CellLemmas.{rises_keys}
use Rattle.tl_watch.proofs.TellLemmas.{told_end}
use Rattle.std.proofs.lemmas.Map.Iter.{rest_all}
use Rattle.std.specs.Map.Iter.{deref_pair}
use Rattle.tl_watch.proofs.groups.tell_all.Goals as goal

pub returns-clause-tells : goal.returns-clause-tells
returns-clause-tells c = told_end c.args.by.now.entries c.loop-value.value-iterator c.loop-value.all.items c.loop-value.invariant (rest_all deref_pair c.loop-value.value-iterator c.next.new.self c.next.result c.in-None.is c.next.ensures.steps)

pub returns-clause-order : goal.returns-clause-order
returns-clause-order c = rises_keys c.args.by.now.entries c.into_iter-value-iterator.ensures.into_iter_gives.5
