use Rattle.std.proofs.Common.{◌<◌, ℕ, List, subst, sym}
use Rattle.std.specs.Prelude.{ℤ, unwrap_or}
use Rattle.std.specs.BTreeMap.{get}
use Rattle.std.specs.Ordering.{int_cmp}
use Rattle.std.proofs.Math.Facts.{to_z-of_z}
use Rattle.tl_bits.specs.Bags.{AddsOne, times}
use Rattle.tl_bits.proofs.BagLemmas.{takes_one_at}
use Rattle.tl_bits.proofs.bags.Bag.remove.Goals as goal

pub count_less-requires : goal.count_less-requires
count_less-requires c =
    subst (λ v. 0 < unwrap_or (get int_cmp c.self.inside.counts v) 0) (sym (to_z-of_z c.ranges.value))
    (subst (λ (bag : List (ℤ × ℕ)). 0 < times bag c.args.value) (sym c.self.view_is) c.requires)

pub returns : goal.returns
returns c =
    let there = subst (λ (bag : List (ℤ × ℕ)). 0 < times bag c.args.value) (sym c.self.view_is) c.requires in
    subst (λ (old : List (ℤ × ℕ)). AddsOne c.count_less.new.counts.entries old c.args.value) c.self.view_is
    (takes_one_at c.self.inside.counts.entries c.count_less.new.counts.entries _ c.args.value (to_z-of_z c.ranges.value) there c.count_less.ensures)
