use Rattle.std.proofs.Common.{◌≡◌, List, ℤ, ℕ, subst}
use Rattle.std.specs.Prelude.{IfSome, IfNone}
use Rattle.tl_bits.specs.Bags.{times, IsGreatest}
use Rattle.tl_running.proofs.HeapLemmas.{greatest_of, none_of}
use Rattle.tl_running.proofs.heaps.Heaps.greatest.Goals as goal

pub returns-clause-greatest : goal.returns-clause-greatest
returns-clause-greatest c = subst (λ (b : List (ℤ × ℕ)). IfSome c.top.result (IsGreatest b)) c.self.view_is (greatest_of c.self.inside.came c.self.inside.gone c.top.result c.self.invariant c.top.ensures.some)

pub returns-clause-none : goal.returns-clause-none
returns-clause-none c = subst (λ (b : List (ℤ × ℕ)). IfNone c.top.result ((v : ℤ) → times b v ≡ 0)) c.self.view_is (none_of c.self.inside.came c.self.inside.gone c.top.result c.top.ensures.none)
