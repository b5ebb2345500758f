-- A mark that is due is not there.
use Rattle.tl_history.proofs.PaceLemmas.{step_fresh}
use Rattle.tl_history.proofs.replaying.with_due.Goals as goal

pub with_mark-requires-clause-fresh : goal.with_mark-requires-clause-fresh
with_mark-requires-clause-fresh c = step_fresh c.args.next c.args.table c.args.k c.due-is_due.result c.due-is_due.ensures c.if-not-is_due.false
