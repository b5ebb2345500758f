use Rattle.std.proofs.Common.{subst}
use Rattle.std.specs.Prelude.{IfNone}
use Rattle.tl_running.specs.Heaps.{HeapOf, none_in}
use Rattle.tl_running.proofs.PileLemmas.{if_none}
use Rattle.tl_running.proofs.pile.Pile.top.Goals as goal

pub returns-clause-none : goal.returns-clause-none
returns-clause-none c = subst (λ (h : HeapOf). IfNone c.top.result (none_in h.numbers)) c.self.view_is (if_none c.self.inside.near c.self.inside.far c.self.inside.bound c.top.result c.self.invariant c.top.ensures.none)
