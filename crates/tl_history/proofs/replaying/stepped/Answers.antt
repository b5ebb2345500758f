-- The table of the commit, if it has one, is there.
use Rattle.tl_history.proofs.PaceLemmas.{step_there}
use Rattle.tl_history.proofs.replaying.stepped.Goals as goal

pub with_due-requires-clause-table : goal.with_due-requires-clause-table
with_due-requires-clause-table c = step_there c.args.snapshot c.in_ok-next.next c.args.commit.now c.store.result.now c.table_in-number.result c.in-Some.table c.requires.fit c.store.ensures c.table_in-number.ensures c.in-Some.is c.in_ok-next.ensures
