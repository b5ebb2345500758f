use Rattle.std.proofs.Common.{arith, ap, sym, ◌∙◌}
use Rattle.tl_join.specs.There.{opened_row}
use Rattle.tl_join.proofs.ThereLemmas.{opened_more}
use Rattle.tl_join.proofs.there.push_opened.Goals as goal

pub loop-event-preserved : goal.loop-event-preserved
loop-event-preserved g c = (
  opened_more c.args.keep.now c.args.events.now c.loop-event.event-index c.event-item.result c.args.ids.now.items c.loop-event.ids.items c.push_some.new.ids.items c.opened_row-row.result (omega (arith, c.loop-event-test.true)) (sym c.event-item.is) c.loop-event.invariant.0 (c.opened_row-row.ensures.row ∙ ap (opened_row c.args.keep.now) c.event.ensures) c.in_ok-push_some.ensures,
  omega (arith, c.loop-event.invariant.1, c.opened_row-row.ensures.steps),
)
