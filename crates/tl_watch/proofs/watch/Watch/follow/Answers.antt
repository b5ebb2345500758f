use Rattle.std.proofs.Common.{sym, subst}
use Rattle.tl_types.specs.Entries.{commits_of}
use Rattle.tl_types.specs.History.{database_of}
use Rattle.tl_watch.specs.Watches.{Watch, AllStand}
use Rattle.tl_watch.proofs.WatchLemmas.{follow_stands}
use Rattle.tl_watch.proofs.watch.Watch.follow.Goals as goal

pub follow_commit-requires-clause-stands : goal.follow_commit-requires-clause-stands
follow_commit-requires-clause-stands g c =
    subst (λ xs. AllStand c.self.inside.plans.items (database_of xs)) (sym c.store.ensures) (subst (λ (w : Watch). AllStand w.plans (database_of (commits_of c.args.before.now))) (sym c.self.view_is) c.requires.stands.all)

pub returns-clause-stands : goal.returns-clause-stands
returns-clause-stands g c =
    follow_stands c.follow_commit.new.plans.items c.store.result.now (commits_of c.args.before.now) c.args.commit.now c.store.ensures c.requires.stands.fit c.requires.fits c.in_ok-follow_commit.ensures.ok
