use Rattle.std.proofs.Common.{rules, w64, SFits, arith, subst}
use Rattle.std.proofs.lemmas.Int.{to_z-of_z}
use Rattle.tl_running.specs.Heaps.{HeapOf, IsTop, JoinsHeap}
use Rattle.tl_running.proofs.HeapLemmas.{top_is, popped, popped_long}
use Rattle.tl_running.proofs.heap.Heap.pop.Goals as goal

pub returns-clause-top : goal.returns-clause-top
returns-clause-top c =
    let fits : SFits w64 c.in_ok-top.top = search rules in
    let whole = to_z-of_z w64 c.in_ok-top.top fits in
    let e = c.in_ok-top.ensures in
    let long = popped_long c.in_ok-top.top c.self.inside.numbers.data.items c.pop.new.self.data.items e.permutation in
    rw whole (subst (λ (h : HeapOf). IsTop h.numbers c.in_ok-top.top) c.self.view_is (top_is c.in_ok-top.top c.self.inside.numbers.data.items (omega arith) e.top (e.heap_order c.self.invariant).1))

pub returns-clause-some : goal.returns-clause-some
returns-clause-some c =
    let fits : SFits w64 c.in_ok-top.top = search rules in
    let whole = to_z-of_z w64 c.in_ok-top.top fits in
    let e = c.in_ok-top.ensures in
    rw whole (subst (λ (h : HeapOf). JoinsHeap (record { numbers = c.pop.new.self.data.items; room = c.pop.new.self.data.cap }) h c.in_ok-top.top) c.self.view_is (record {
      long = popped_long c.in_ok-top.top c.self.inside.numbers.data.items c.pop.new.self.data.items e.permutation;
      counts = popped c.in_ok-top.top c.self.inside.numbers.data.items c.pop.new.self.data.items e.permutation;
    }))
