use Rattle.std.proofs.Common.{sym, subst}
use Rattle.tl_types.specs.Entries.{commits_of}
use Rattle.tl_types.specs.History.{database_of}
use Rattle.tl_watch.specs.Watches.{Watch, AllStand}
use Rattle.tl_watch.proofs.watch.Watch.register.Goals as goal

pub add_plan-requires-clause-stands : goal.add_plan-requires-clause-stands
add_plan-requires-clause-stands g c = subst (λ (w : Watch). AllStand w.plans (database_of (commits_of c.args.snapshot.now))) (sym c.self.view_is) c.requires.stands.all
