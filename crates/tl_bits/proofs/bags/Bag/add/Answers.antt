use Rattle.std.proofs.Common.{ℕ, List, subst}
use Rattle.std.specs.Prelude.{ℤ}
use Rattle.std.proofs.lemmas.Result.{on_ok_weaker}
use Rattle.std.proofs.Math.Facts.{to_z-of_z}
use Rattle.tl_bits.specs.Bags.{AddsOne}
use Rattle.tl_bits.proofs.BagLemmas.{adds_one_at}
use Rattle.tl_bits.proofs.bags.Bag.add.Goals as goal

pub returns-clause-ok : goal.returns-clause-ok
returns-clause-ok c =
    on_ok_weaker c.count_more.result
    (λ puts. subst (λ (old : List (ℤ × ℕ)). AddsOne old c.count_more.new.counts.entries c.args.value) c.self.view_is
    (adds_one_at c.self.inside.counts.entries c.count_more.new.counts.entries _ c.args.value (to_z-of_z c.ranges.value) puts.0))
    c.count_more.ensures.ok
