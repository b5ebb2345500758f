use Rattle.std.proofs.Common.{◌*◌, ◌/◌, length, ap, ◌∙◌, arith}
use Rattle.std.specs.Prelude.{sum_by, count_ones}
use Rattle.std.proofs.lemmas.List.{take_rest}
use Rattle.std.proofs.lemmas.List.Sums.{sum_by-take-drop}
use Rattle.tl_lanes.proofs.Counted.{ones_sum-le}
use Rattle.tl_lanes.proofs.words.count_ones.Goals as goal

pub overflow_add-result : goal.overflow_add-result
overflow_add-result c =
    let words = c.args.words.now in
    let whole = length words / 8 * 8 in
    let front = c.count_lanes.ensures in
    let back = c.count_rest.ensures ∙ ap (sum_by count_ones) (take_rest words whole) in
    let both = sum_by-take-drop count_ones words whole in
    let few = ones_sum-le words c.type_inv.words in
    let small = c.requires in
    record { fits = omega arith }

pub returns : goal.returns
returns c =
    let words = c.args.words.now in
    let whole = length words / 8 * 8 in
    let front = c.count_lanes.ensures in
    let back = c.count_rest.ensures ∙ ap (sum_by count_ones) (take_rest words whole) in
    let both = sum_by-take-drop count_ones words whole in
    omega arith
