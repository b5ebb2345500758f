use Rattle.std.proofs.Common.{ℕ, List, subst, sym, ◌∙◌, w64}
use Rattle.std.specs.Prelude.{ℤ}
use Rattle.std.proofs.Math.Facts.{to_z-of_z}
use Rattle.tl_bits.specs.Bags.{IsGreatest}
use Rattle.tl_bits.proofs.BagLemmas.{greatest_is}
use Rattle.tl_bits.proofs.bags.Bag.greatest.Goals as goal

pub returns-clause-greatest : goal.returns-clause-greatest
returns-clause-greatest c =
    let counts = c.self.inside.counts in
    let value = c.in_ok-value.value.now in
    let found = greatest_is counts.entries value c.in_ok-value.field-0-1.now c.self.invariant c.in_ok-value.ensures.value c.in_ok-value.ensures.greatest in
    subst (IsGreatest c.args.self.now) (sym c.number.ensures ∙ sym (to_z-of_z {w = w64} {z = c.number.result} (record { sfits = c.number.type_inv })))
    (subst (λ (bag : List (ℤ × ℕ)). IsGreatest bag value) c.self.view_is found)
