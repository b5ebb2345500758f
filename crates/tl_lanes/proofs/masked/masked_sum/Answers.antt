use Rattle.std.proofs.Common.{◌≡◌, ◌+◌, ◌*◌, ◌^◌, pos, ◌+ℤ◌, neg_ℤ, ◌≤ℤ◌, get_or, sym, ap, ◌∙◌, subst, arith, of_z, to_z}
use Rattle.std.specs.Int.{w128}
use Rattle.std.specs.Prelude.{ℤ, if◌then◌else◌}
use Rattle.std.proofs.Math.Facts.{to_z-of_z}
use Rattle.tl_lanes.specs.Masks.{bit_of}
use Rattle.tl_lanes.proofs.PickedLemmas.{sum_more, wide_sum, sum_low, sum_high}
use Rattle.tl_lanes.proofs.masked.masked_sum.Goals as goal

pub loop-j-preserved : goal.loop-j-preserved
loop-j-preserved c =
    let sum : ℤ = to_z w128 c.loop-j.sum-bits in
    let value : ℤ = c.counted.result in
    let fits = c.counted.ensures.fits in
    let j = c.loop-j.j in
    let before = c.loop-j.invariant in
    let few = c.requires.few in
    let same : c.from-sum.result ≡ value = c.from-sum.ensures ∙ to_z-of_z fits in
    let next : to_z w128 (of_z w128 (sum +ℤ to_z w128 (of_z w128 c.from-sum.result))) ≡ sum +ℤ value =
    ap (λ v. to_z w128 (of_z w128 (sum +ℤ to_z w128 (of_z w128 v)))) same ∙ wide_sum sum value j fits before.low before.high (omega arith) in
    let is : value ≡ (if c.is_set.result then get_or c.args.values.now j (pos 0) else pos 0) = c.counted.ensures.value in record {
      sum = next ∙ ap (λ v. sum +ℤ v) (is ∙ ap (λ set. if set then get_or c.args.values.now j (pos 0) else pos 0) c.is_set.ensures)
          ∙ ap (λ s. s +ℤ (if bit_of c.args.mask.now j then get_or c.args.values.now j (pos 0) else pos 0)) before.sum ∙ sym (sum_more c.args.mask.now c.args.values.now j (pos 0) (omega arith));
      low = subst (λ s. neg_ℤ (pos (2 ^ 63 * (j + 1))) ≤ℤ s) (sym next) (sum_low sum value j fits before.low);
      high = subst (λ s. s ≤ℤ pos (2 ^ 63 * (j + 1))) (sym next) (sum_high sum value j fits before.high);
    }
