use Rattle.std.proofs.Common.{arith}
use Rattle.tl_join.proofs.SideLemmas.{ids_more, entries_more, keeps_on}
use Rattle.tl_join.proofs.sides.entries_of.Goals as goal

pub loop-id-preserved : goal.loop-id-preserved
loop-id-preserved g c =
    record {
      ids = ids_more c.args.ids.now c.loop-id.id-index c.loop-id.entries.items c.push.new.self.items c.in_ok-entry.entry (omega (arith, c.loop-id-test.true)) c.in_ok-entry.ensures.id c.in_ok-push.ensures.items c.loop-id.invariant.ids;
      entries = entries_more c.args.side.now c.args.plan.now c.loop-id.keys c.entry_of.new.keys c.loop-id.entries.items c.push.new.self.items c.in_ok-entry.entry c.in_ok-entry.ensures.kept c.loop-id.invariant.entries c.in_ok-entry.ensures.entry c.in_ok-push.ensures.items;
      apart = c.in_ok-entry.ensures.apart;
      kept = keeps_on c.args.keys.now c.loop-id.keys c.entry_of.new.keys c.loop-id.invariant.kept c.in_ok-entry.ensures.kept;
      count = let a = c.loop-id.invariant.count in let b = c.in_ok-entry.ensures.count in omega (arith, a, b);
      steps = let a = c.loop-id.invariant.steps in let b = c.in_ok-entry.ensures.steps in omega (arith, a, b);
    }
