use Rattle.std.proofs.Common.{arith, pos, false}
use Rattle.tl_join.proofs.ValidSideLemmas.{entries_more, entries_all, keeps_on}
use Rattle.tl_join.proofs.valid_sides.entries_of.Goals as goal

pub loop-event-preserved : goal.loop-event-preserved
loop-event-preserved g c =
    record {
      entries = entries_more c.args.side.now c.args.plan.now c.loop-event.keys c.event_entry.new.keys c.args.events.now c.loop-event.event-index (record { time = pos 0; opens = false; row = 0 }) c.loop-event.entries.items c.push_some.new.entries.items c.in_ok-entry.entry (omega (arith, c.loop-event-test.true)) c.loop-event.invariant.entries c.in_ok-entry.ensures.entry c.in_ok-entry.ensures.kept c.in_ok-push_some.ensures;
      apart = c.in_ok-entry.ensures.apart;
      kept = keeps_on c.args.keys.now c.loop-event.keys c.event_entry.new.keys c.loop-event.invariant.kept c.in_ok-entry.ensures.kept;
      count = let a = c.loop-event.invariant.count in let b = c.in_ok-entry.ensures.count in omega (arith, a, b);
      steps = let a = c.loop-event.invariant.steps in let b = c.in_ok-entry.ensures.steps in omega (arith, a, b);
    }

pub returns-clause-entries : goal.returns-clause-entries
returns-clause-entries g c = entries_all c.args.side.now c.args.plan.now c.loop-event.keys c.args.events.now c.loop-event.event-index c.loop-event.entries.items (omega (arith, c.loop-event-test.false)) c.loop-event.invariant.entries
