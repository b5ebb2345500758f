use Rattle.std.proofs.Common.{pos, false, take, sym, subst, arith}
use Rattle.std.proofs.lemmas.List.{take_more}
use Rattle.tl_types.specs.declared.events.ValidEvent.{ValidEvent}
use Rattle.tl_app.specs.Groups.{column_rows, AreDealt}
use Rattle.tl_app.proofs.keyed.dealt.Goals as goal

abbrev nothing : ValidEvent
nothing = record { time = pos 0; opens = false; row = 0 }

pub loop-event-preserved : goal.loop-event-preserved
loop-event-preserved g c =
    let steps = c.deal.ensures.steps in
    let before = c.loop-event.invariant.steps in record {
      dealt = subst (AreDealt (column_rows c.args.by.now) c.args.by.now.column c.deal.new.keys c.deal.new.groups.items) (sym (take_more c.args.events.now c.loop-event.event-index nothing c.loop-event-test.true))
          (c.in_ok-deal.ensures.dealt (take c.loop-event.event-index c.args.events.now) c.loop-event.invariant.dealt);
      steps = omega arith;
    }
