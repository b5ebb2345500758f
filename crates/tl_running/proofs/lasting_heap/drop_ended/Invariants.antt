use Rattle.std.specs.BinaryHeap.{IsHeap, heap_items, heap_len}
use Rattle.tl_running.specs.Lasting.{lasting_cmp, SameFrom}
use Rattle.tl_running.proofs.lasting_heap.drop_ended.Given as goal

abbrev pub invariant-ending : goal.invariant-ending
invariant-ending l = record {
  heap : IsHeap lasting_cmp (heap_items l.rows);
  same : SameFrom l.now (heap_items l.fn.rows) (heap_items l.rows);
}

abbrev pub decreases-ending : goal.decreases-ending
decreases-ending l = heap_len l.rows
