use Rattle.std.proofs.Common.{arith}
use Rattle.tl_core.proofs.PrefixLemmas.{one_entry_more}
use Rattle.tl_core.proofs.legality.is_legal.Goals as goal

pub loop-at-preserved : goal.loop-at-preserved
loop-at-preserved c =
    one_entry_more c.args.entries.now c.split_at.result.0.now c.loop-at.at c.index-entries-at.result c.loop-at.store c.in_ok-store.store c.is_break-broken.result c.may_follow.result (omega arith) c.index-entries-at.is c.split_at.ensures.front c.may_follow.ensures c.if-not-may_follow.false c.loop-at.invariant.0 c.in_ok-store.ensures c.is_break-broken.ensures c.loop-at.invariant.2
