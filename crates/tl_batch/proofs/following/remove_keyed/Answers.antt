use Rattle.std.proofs.Common.{arith}
use Rattle.tl_batch.proofs.IndexedRows.{keyed_gone}
use Rattle.tl_batch.proofs.following.remove_keyed.Goals as goal

pub loop-row-preserved : goal.loop-row-preserved
loop-row-preserved c = λ x n. keyed_gone c.args.closed.now c.loop-row.row-index c.row-item.result c.loop-row.index c.args.index.now c.remove.new.self x n (omega arith) c.row-item.is (c.loop-row.invariant x n) (c.remove.ensures x n)
