use Rattle.tl_watch.proofs.StartLemmas.{set_stands}
use Rattle.tl_watch.proofs.starts.standing_set.Goals as goal

pub returns-clause-rows : goal.returns-clause-rows
returns-clause-rows g c =
    set_stands c.args.snapshot.now c.store.result.now c.versions-version.result c.args.plan.now.table c.args.plan.now.pred c.in_ok-set.set c.select_within.new.set c.store.ensures c.versions-version.ensures.version c.in_ok-set.ensures.set c.select_within.ensures.rows c.select_within.ensures.members
