use Rattle.std.proofs.Common.{◌≡◌, ◌*◌, ◌/◌, map, length, set, sym, ap, ◌∙◌, arith}
use Rattle.std.proofs.lemmas.List.{length-map, length-set, take_rest}
use Rattle.std.specs.Simd.Lanes.{mask_l}
use Rattle.tl_lanes.specs.Masks.{word_of}
use Rattle.tl_lanes.proofs.LaneMasks.{words_more, last_word, mask_is}
use Rattle.tl_lanes.proofs.masks.fill.Goals as goal

pub returns-then-values-gt0 : goal.returns-then-values-gt0
returns-then-values-gt0 g c =
    let test = g.C.Comparison.test c.args.test.now in
    let values = c.args.values.now in
    let whole = length values / 64 in
    let bits = map test values in
    let word = c.rest_word.result in
    let out = c.fill_whole.new.out in
    let kept = c.fill_whole.auto.out in
    let given = c.requires in
    let some = c.if-values-gt0.true in
    let last : word ≡ word_of bits whole = c.rest_word.ensures ∙ ap (λ vs. mask_l (map test vs)) (take_rest values (64 * whole)) ∙ sym (last_word test values whole (omega arith)) in
    let words = words_more (word_of bits) out whole word (omega arith) c.fill_whole.ensures last in
    mask_is bits (set out whole word) (length values) (sym (length-map values test)) (length-set out whole word ∙ omega arith)
    (λ k below. words k (omega arith))

pub returns-else-values-gt0 : goal.returns-else-values-gt0
returns-else-values-gt0 g c =
    let test = g.C.Comparison.test c.args.test.now in
    let values = c.args.values.now in
    let kept = c.fill_whole.auto.out in
    let given = c.requires in
    let none = c.if-values-gt0.false in
    mask_is (map test values) c.fill_whole.new.out (length values) (sym (length-map values test)) (omega arith)
    (λ k below. c.fill_whole.ensures k (omega arith))
