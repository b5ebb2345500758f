use Rattle.std.proofs.Common.{w64, to_z, of_z}
use Rattle.tl_running.proofs.LastingLemmas.{same_further}
use Rattle.tl_running.proofs.lasting_heap.drop_ended.Goals as goal

pub ending-preserved : goal.ending-preserved
ending-preserved c = record {
  heap = c.drop_first.ensures.heap;
  same = same_further (to_z w64 (of_z w64 c.args.now)) c.args.rows.now.data.items c.ending.rows.data.items c.drop_first.new.rows.data.items c.ending.invariant.same c.drop_first.ensures.same;
}
