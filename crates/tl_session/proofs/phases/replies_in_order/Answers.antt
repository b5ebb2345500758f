use Rattle.std.proofs.Common.{arith}
use Rattle.tl_session.proofs.HandLemmas.{hands_lent, kept_step}
use Rattle.tl_session.proofs.phases.replies_in_order.Goals as goal

pub returns-in_err-push-clause-kept : goal.returns-in_err-push-clause-kept
returns-in_err-push-clause-kept g c = kept_step _ _ _ _ _ c.loop-left.invariant.1 c.last_reply.ensures

pub loop-left-preserved : goal.loop-left-preserved
loop-left-preserved g c = (omega (arith, c.loop-left.invariant.0), kept_step _ _ _ _ _ c.loop-left.invariant.1 c.last_reply.ensures, hands_lent c.args.jobs.now c.args.sessions.now c.loop-left.sessions c.last_reply.new.sessions c.loop-left.left c.loop-left.replies.items c.push.new.self.items _ c.in-Some.reply c.last_reply.result c.loop-left-test.true c.loop-left.invariant.0 c.last_reply.ensures c.in-Some.is c.in_ok-push.ensures.items c.loop-left.invariant.2)
