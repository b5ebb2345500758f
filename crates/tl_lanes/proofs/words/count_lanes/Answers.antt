use Rattle.std.proofs.Common.{◌≡◌, ◌+◌, ◌*◌, ◌/◌, length, take, ap, ◌∙◌, arith, w64}
use Rattle.std.specs.Prelude.{sum_by, count_ones}
use Rattle.std.proofs.lemmas.Simd.{sum_fits, fold-sum}
use lib.Lanes.{sum_l}
use Rattle.tl_lanes.proofs.Counted.{counted_fit, counted_more}
use Rattle.tl_lanes.proofs.words.count_lanes.Goals as goal

pub overflow_add-counts : goal.overflow_add-counts
overflow_add-counts c =
    counted_fit c.args.words.now c.loop-i.counts 8 (8 * c.loop-i.i) (omega arith) (omega arith) c.type_inv.words c.loop-i.invariant

pub loop-i-preserved : goal.loop-i-preserved
loop-i-preserved c =
    counted_more c.args.words.now c.loop-i.counts 8 (8 * c.loop-i.i) (8 * (c.loop-i.i + 1)) (omega arith) (omega arith) c.type_inv.words c.loop-i.invariant

pub overflow_add-result : goal.overflow_add-result
overflow_add-result c = let few = c.loop-i.invariant.few in sum_fits w64 0 c.loop-i.counts (omega arith)

pub returns : goal.returns
returns c =
    let words = c.args.words.now in
    fold-sum 0 c.loop-i.counts ∙ (let none : 0 + sum_l c.loop-i.counts ≡ sum_l c.loop-i.counts = omega arith in none) ∙ c.loop-i.invariant.sum
    ∙ ap (λ k. sum_by count_ones (take k words)) (let at : 8 * c.loop-i.i ≡ length words / 8 * 8 = omega arith in at)
