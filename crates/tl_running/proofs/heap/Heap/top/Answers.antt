use Rattle.std.proofs.Common.{rules, w64, SFits, subst}
use Rattle.std.proofs.lemmas.Int.{to_z-of_z}
use Rattle.tl_running.specs.Heaps.{HeapOf, IsTop}
use Rattle.tl_running.proofs.HeapLemmas.{top_is}
use Rattle.tl_running.proofs.heap.Heap.top.Goals as goal

pub returns-clause-some : goal.returns-clause-some
returns-clause-some c =
    let fits : SFits w64 c.number.result = search rules in
    let whole = to_z-of_z w64 c.number.result fits in
    let e = c.in_ok-top.ensures in
    rw whole (rw c.number.ensures (subst (λ (h : HeapOf). IsTop h.numbers c.in_ok-top.top.now) c.self.view_is (top_is c.in_ok-top.top.now c.self.inside.numbers.data.items e.item.3.0 e.lookup (e.greatest c.self.invariant))))
