-- As many events as the index tells.
use Rattle.std.proofs.Common.{sym}
use Rattle.tl_index.proofs.DueLemmas.{never_due, due_by}
use Rattle.tl_index.proofs.snapshots.Snapshot.due.Goals as goal

pub returns-then-k-eq0 : goal.returns-then-k-eq0
returns-then-k-eq0 c = sym (never_due c.args.self.now c.args.table c.args.k c.if-k-eq0.true)

pub returns : goal.returns
returns c = due_by c.args.self.now c.args.table c.args.k c.last_mark-last.result c.events_after.result c.if-k-eq0.false c.last_mark-last.ensures.last c.events_after.ensures
