use Rattle.std.proofs.Common.{w64, SFits, rules, subst}
use Rattle.std.proofs.lemmas.Int.{to_z-of_z}
use Rattle.tl_running.specs.Heaps.{HeapOf, IsTop, JoinsHeap, none_in, pile_of}
use Rattle.tl_running.proofs.PileLemmas.{pile_none, pile_top, popped_pile, emptied}
use Rattle.tl_running.proofs.pile.Pile.pop.Goals as goal

pub returns-clause-top : goal.returns-clause-top
returns-clause-top c =
    let fits : SFits w64 c.in_ok-top.top = search rules in
    let whole = to_z-of_z w64 c.in_ok-top.top fits in
    rw whole (subst (λ (h : HeapOf). IsTop h.numbers c.in_ok-top.top) c.self.view_is (pile_top c.self.inside.near c.self.inside.far c.self.inside.bound c.in_ok-top.top c.self.invariant c.in_ok-top.ensures.top))

pub returns-clause-some : goal.returns-clause-some
returns-clause-some c =
    let fits : SFits w64 c.in_ok-top.top = search rules in
    let whole = to_z-of_z w64 c.in_ok-top.top fits in
    rw whole (subst (λ (h : HeapOf). JoinsHeap (pile_of c.mend-self-inside.new.near c.mend-self-inside.new.far) h c.in_ok-top.top) c.self.view_is (popped_pile c.self.inside.near c.self.inside.far c.pop.new.self c.mend-self-inside.new.near c.mend-self-inside.new.far c.in_ok-top.top c.mend-self-inside.result c.in_ok-top.ensures.some c.mend-self-inside.ensures.mends))

pub invariant_of-self : goal.invariant_of-self
invariant_of-self c = emptied c.self.inside.near c.pop.new.self c.self.inside.far c.self.inside.bound c.self.invariant c.in_err-top.ensures.none c.in_err-top.ensures.empty c.pop.ensures.room

pub returns-in_err-top-clause-none : goal.returns-in_err-top-clause-none
returns-in_err-top-clause-none c = rw c.from_residual.ensures (subst (λ (h : HeapOf). none_in h.numbers) c.self.view_is (pile_none c.self.inside.near c.self.inside.far c.self.inside.bound c.self.invariant c.in_err-top.ensures.none))
