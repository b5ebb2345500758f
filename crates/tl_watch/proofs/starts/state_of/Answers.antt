use Rattle.std.proofs.Common.{sym, subst}
use Rattle.tl_types.specs.History.{database_of, rows_of}
use Rattle.tl_agg.specs.Kept.{picked}
use Rattle.tl_watch.specs.Follows.{IsBeginning}
use Rattle.tl_watch.specs.States.{Stands}
use Rattle.tl_watch.proofs.starts.state_of.Goals as goal

pub summed-requires-clause-ready : goal.summed-requires-clause-ready
summed-requires-clause-ready g c = subst (λ cs. IsBeginning c.args.plan.now (database_of cs) c.args.set.now) (sym c.store.ensures) c.requires

pub returns-in-Some-clause-stands : goal.returns-in-Some-clause-stands
returns-in-Some-clause-stands g c = subst (λ cs. Stands c.args.plan.now c.summed.result (picked c.args.set.now (rows_of (database_of cs) c.args.plan.now.table))) c.store.ensures c.summed.ensures.stands
