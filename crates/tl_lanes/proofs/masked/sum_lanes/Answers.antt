use Rattle.std.proofs.Common.{◌≡◌, ◌+◌, ◌*◌, ◌/◌, ◌%◌, ◌^◌, get_or, length, take, ap, ◌∙◌, sym, arith, w64, refl, drop, ◌-◌, subst, pos, neg_ℤ, ◌≤ℤ◌}
use Rattle.std.proofs.lemmas.Simd.{sum_fits, fold-sum}
use Rattle.std.proofs.Math.Facts.{to_z-of_z}
use lib.Lanes.{sum_l, fold_l}
use mir.Val.{SFits}
use Rattle.std.specs.Int.{w128}
use Rattle.tl_lanes.proofs.SumLemmas.{offset_there, lows_fit, highs_fit, sums_more, total, total_low, total_high, lanes_fit}
use Rattle.tl_lanes.proofs.masked.sum_lanes.Goals as goal

pub overflow_add-lows : goal.overflow_add-lows
overflow_add-lows c = let few = c.requires.few in
    lows_fit c.loop-i.lows c.offset_lanes-lanes.result 8 (8 * c.loop-i.i) (omega arith) c.offset_lanes-lanes.ensures.long c.loop-i.invariant.few_lows

pub overflow_add-highs : goal.overflow_add-highs
overflow_add-highs c = let few = c.requires.few in
    highs_fit c.loop-i.highs c.offset_lanes-lanes.result 8 (8 * c.loop-i.i) (omega arith) c.offset_lanes-lanes.ensures.long (lanes_fit c.offset_lanes-lanes.result 8 c.offset_lanes-lanes.ensures.long c.offset_lanes-lanes.ensures.fit) c.loop-i.invariant.few_highs

pub loop-i-preserved : goal.loop-i-preserved
loop-i-preserved c =
    let mask = c.args.mask.now in
    let values = c.args.values.now in
    let at = 8 * c.loop-i.i in
    let lanes = c.offset_lanes-lanes.result in
    let long = c.offset_lanes-lanes.ensures.long in
    sums_more mask values c.loop-i.lows c.loop-i.highs lanes 8 at (8 * (c.loop-i.i + 1)) (omega arith) (omega arith) long (lanes_fit c.offset_lanes-lanes.result 8 c.offset_lanes-lanes.ensures.long c.offset_lanes-lanes.ensures.fit)
    (offset_there mask values (take (at + 8 - at) (drop at values)) (get_or mask (at / 64) 0 / 2 ^ (at % 64)) lanes c.loop-i.i at 8 refl refl (omega arith) long refl (ap (λ k. take k (drop at values)) (let e : at + 8 - at ≡ 8 = omega arith in e)) c.offset_lanes-lanes.ensures.lanes)
    c.loop-i.invariant

pub overflow_add-lows-2 : goal.overflow_add-lows-2
overflow_add-lows-2 c = let few = c.loop-i.invariant.few_lows in let small = c.requires.few in sum_fits w64 0 c.loop-i.lows (omega arith)

pub overflow_add-highs-2 : goal.overflow_add-highs-2
overflow_add-highs-2 c = let few = c.loop-i.invariant.few_highs in let small = c.requires.few in sum_fits w64 0 c.loop-i.highs (omega arith)

pub returns-clause-value : goal.returns-clause-value
returns-clause-value c =
    let values = c.args.values.now in
    let none_low : 0 + sum_l c.loop-i.lows ≡ sum_l c.loop-i.lows = omega arith in
    let none_high : 0 + sum_l c.loop-i.highs ≡ sum_l c.loop-i.highs = omega arith in
    let fits : SFits w128 c.joined.result = record { sfits = c.joined.type_inv } in
    to_z-of_z fits
    ∙ total c.args.mask.now values c.joined.result (fold_l (λ s x. s + x) 0 c.loop-i.lows) (fold_l (λ s x. s + x) 0 c.loop-i.highs) (sum_l c.loop-i.lows) (sum_l c.loop-i.highs)
    (8 * c.loop-i.i) (length values / 8 * 8) (omega arith) (fold-sum 0 c.loop-i.lows ∙ none_low) (fold-sum 0 c.loop-i.highs ∙ none_high) c.loop-i.invariant.sum c.joined.ensures

pub returns-clause-low : goal.returns-clause-low
returns-clause-low c =
    let fits : SFits w128 c.joined.result = record { sfits = c.joined.type_inv } in
    subst (λ z. neg_ℤ (pos (2 ^ 63 * (length c.args.values.now / 8 * 8))) ≤ℤ z) (sym (to_z-of_z fits))
    (total_low c.joined.result (fold_l (λ s x. s + x) 0 c.loop-i.lows) (fold_l (λ s x. s + x) 0 c.loop-i.highs) (length c.args.values.now / 8 * 8) c.joined.ensures)

pub returns-clause-high : goal.returns-clause-high
returns-clause-high c =
    let values = c.args.values.now in
    let none_low : 0 + sum_l c.loop-i.lows ≡ sum_l c.loop-i.lows = omega arith in
    let none_high : 0 + sum_l c.loop-i.highs ≡ sum_l c.loop-i.highs = omega arith in
    let low_is = fold-sum 0 c.loop-i.lows ∙ none_low in
    let high_is = fold-sum 0 c.loop-i.highs ∙ none_high in
    let few_lows = c.loop-i.invariant.few_lows in
    let few_highs = c.loop-i.invariant.few_highs in
    let fits : SFits w128 c.joined.result = record { sfits = c.joined.type_inv } in
    subst (λ z. z ≤ℤ pos (2 ^ 63 * (length c.args.values.now / 8 * 8))) (sym (to_z-of_z fits))
    (total_high c.joined.result (fold_l (λ s x. s + x) 0 c.loop-i.lows) (fold_l (λ s x. s + x) 0 c.loop-i.highs) (length values / 8 * 8) (omega arith) (omega arith) c.joined.ensures)
