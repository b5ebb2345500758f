use Rattle.std.proofs.Common.{sym, ◌∙◌, ap, rules, arith, subst, length, w64, to_z, SFits, ◌≤◌}
use Rattle.std.proofs.lemmas.Int.{to_z-of_z}
use Rattle.tl_bits.specs.Bags.{AreCounts}
use Rattle.tl_bits.proofs.CountLemmas.{turn_same, turn_other, counted_all, same_bits, other_bits}
use Rattle.tl_bits.proofs.bags.counted.Goals.{then-value-last, else-value-last+in_ok-push}
use Rattle.tl_bits.proofs.bags.counted.Goals as goal

pub numbers-preserved : goal.numbers-preserved
numbers-preserved c =
    let fits : SFits w64 c.number_at-value.result = search rules in
    elim c.if-value-last.branch [
      | then-value-last w ↦
          turn_same c.numbers.counts.items c.if-value-last.counts.items (to_z w64 c.numbers.last-bits) (to_z w64 c.if-value-last.last-bits) c.number_at-value.result c.numbers.many c.if-value-last.many c.args.numbers.now c.numbers.i c.numbers.invariant c.number_at-value.ensures
          (same_bits c.number_at-value.result c.numbers.last-bits fits w.if-value-last.true) (ap (λ v. v.items) w.counts-is) w.last-is w.many-is
      | else-value-last+in_ok-push w ↦
          turn_other c.numbers.counts.items c.if-value-last.counts.items (to_z w64 c.numbers.last-bits) (to_z w64 c.if-value-last.last-bits) c.number_at-value.result c.numbers.many c.if-value-last.many c.args.numbers.now c.numbers.i c.numbers.invariant c.number_at-value.ensures
          (other_bits c.number_at-value.result c.numbers.last-bits (search rules) w.if-value-last.false) c.requires (ap (λ v. v.items) w.counts-is ∙ w.in_ok-push.ensures.items) (w.last-is ∙ to_z-of_z w64 c.number_at-value.result fits) w.many-is
    ]

pub returns : goal.returns
returns c =
    let t = c.numbers-test.false in
    let few : length c.args.numbers.now ≤ c.numbers.i = omega arith in
    subst (λ counts. AreCounts counts c.args.numbers.now) (sym c.in_ok-push-2.ensures.items) (counted_all c.numbers.counts.items (to_z w64 c.numbers.last-bits) c.numbers.many c.args.numbers.now c.numbers.i c.numbers.invariant few)
