use Rattle.std.proofs.Common.{arith}
use Rattle.tl_join.proofs.ThereLemmas.{opened_run}
use Rattle.tl_join.proofs.there.add_opened.Goals as goal

pub events-preserved : goal.events-preserved
events-preserved g c = (
  omega (arith, c.events.invariant.0),
  c.run-run.ensures.within,
  opened_run c.args.keep.now c.args.events.now c.run-run.result.now c.events.at c.args.last c.events.ids.items c.push_opened.new.ids.items _ c.run-run.ensures.run c.run-run.ensures.within c.in_ok-push_opened.ensures.ids c.events.invariant.2,
  omega (arith, c.events.invariant.0, c.events.invariant.3, c.run-run.ensures.steps, c.push_opened.ensures),
)
