use Rattle.std.proofs.Common.{refl}
use Rattle.tl_watch.proofs.GatherLemmas.{gathering_none}
use Rattle.tl_watch.proofs.starts.gathered.Goals as goal

pub take_all-requires-clause-gathers : goal.take_all-requires-clause-gathers
take_all-requires-clause-gathers g c = gathering_none c.args.plan.now c.new-reader.result.table.db c.args.set.now c.none-gathering.result (c.none-gathering.ensures c.args.plan.now refl)
