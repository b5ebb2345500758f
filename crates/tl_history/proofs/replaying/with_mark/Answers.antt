-- The mark is that of the checkpoint that was built.
use Rattle.tl_history.proofs.PaceLemmas.{may_mark_now}
use Rattle.tl_history.proofs.replaying.with_mark.Goals as goal

pub mark-requires-clause-table : goal.mark-requires-clause-table
mark-requires-clause-table c = (may_mark_now c.args.snapshot.now c.args.table c.in_ok-checkpoint.checkpoint c.requires.table c.requires.fresh c.in_ok-checkpoint.ensures).there

pub mark-requires-clause-version : goal.mark-requires-clause-version
mark-requires-clause-version c = (may_mark_now c.args.snapshot.now c.args.table c.in_ok-checkpoint.checkpoint c.requires.table c.requires.fresh c.in_ok-checkpoint.ensures).reached

pub mark-requires-clause-fresh : goal.mark-requires-clause-fresh
mark-requires-clause-fresh c = (may_mark_now c.args.snapshot.now c.args.table c.in_ok-checkpoint.checkpoint c.requires.table c.requires.fresh c.in_ok-checkpoint.ensures).fresh

pub mark-requires-clause-checkpoint : goal.mark-requires-clause-checkpoint
mark-requires-clause-checkpoint c = (may_mark_now c.args.snapshot.now c.args.table c.in_ok-checkpoint.checkpoint c.requires.table c.requires.fresh c.in_ok-checkpoint.ensures).value_is
