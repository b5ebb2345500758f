use Rattle.tl_watch.proofs.WatchLemmas.{start_stands}
use Rattle.tl_watch.proofs.watch.Watch.start.Goals as goal

pub returns-clause-stands : goal.returns-clause-stands
returns-clause-stands c = start_stands c.args.snapshot.now c.new.result.items c.has_break-has_break.ensures.legal c.new.ensures.items
