use Rattle.tl_types.specs.Entries.{commits_of}
use Rattle.tl_types.specs.History.{database_of}
use Rattle.tl_watch.specs.Watches.{Watched}
use Rattle.tl_watch.proofs.WatchLemmas.{plan_added}
use Rattle.tl_watch.proofs.watch.add_plan.Goals as goal

pub returns-clause-stands : goal.returns-clause-stands
returns-clause-stands g c =
    let was : Watched = record { plan = c.args.plan; state = c.in_ok-state.state } in
    plan_added c.args.plans.now.items c.push.new.self.items c.new.result was (database_of (commits_of c.args.snapshot.now)) c.in_ok-push.ensures.items c.new.ensures c.requires.stands c.in_ok-state.ensures.stands
