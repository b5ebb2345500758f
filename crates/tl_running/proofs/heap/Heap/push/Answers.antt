use Rattle.std.proofs.Common.{w64, subst}
use Rattle.std.proofs.lemmas.Int.{to_z-of_z}
use Rattle.tl_running.specs.Heaps.{HeapOf, JoinsHeap}
use Rattle.tl_running.proofs.HeapLemmas.{pushed, pushed_long}
use Rattle.tl_running.proofs.heap.Heap.push.Goals as goal

pub returns-clause-joins : goal.returns-clause-joins
returns-clause-joins c =
    let e = rw (to_z-of_z w64 c.args.number c.ranges.number) at c.in-Ok.ensures.permutation in
    subst (λ (h : HeapOf). JoinsHeap h (record { numbers = c.push.new.self.data.items; room = c.push.new.self.data.cap }) c.args.number) c.self.view_is (record {
      long = pushed_long c.args.number c.self.inside.numbers.data.items c.push.new.self.data.items e;
      counts = pushed c.args.number c.self.inside.numbers.data.items c.push.new.self.data.items e;
    })
