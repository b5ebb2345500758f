use Rattle.std.proofs.Common.{ap, ◌∙◌, arith, get_or, replicate, pos, ◌^◌, take}
use Rattle.std.proofs.lemmas.List.{take_all}
use lib.Lanes.{sel_l}
use Rattle.tl_lanes.proofs.SumLemmas.{offsets, offsets_are, bit_lanes, selected, casts, offset_fits}
use Rattle.tl_lanes.specs.Masks.{is_bit}
use Rattle.tl_lanes.proofs.masked.offset_lanes.Goals as goal

pub overflow_cast-all : goal.overflow_cast-all
overflow_cast-all c = casts 8 (take 8 c.args.values.now)

pub returns-clause-fit : goal.returns-clause-fit
returns-clause-fit c k below =
    let values = c.args.values.now in
    let word = c.args.word in
    offset_fits (is_bit word k) (get_or values k (pos 0)) (get_or (sel_l (bit_lanes 8 word) (offsets 8 (take 8 values)) (replicate 8 (2 ^ 63))) k 0)
    (c.all_fit.ensures k (omega arith))
    (ap (λ vs. pos (get_or (sel_l (bit_lanes 8 word) (offsets 8 vs) (replicate 8 (2 ^ 63))) k 0)) (take_all 8 values (omega arith))
    ∙ ap (λ xs. pos (get_or (sel_l (bit_lanes 8 word) xs (replicate 8 (2 ^ 63))) k 0)) (offsets_are 8 values c.requires)
    ∙ selected 8 word values c.requires c.all_fit.ensures k below)

pub returns-clause-lanes : goal.returns-clause-lanes
returns-clause-lanes c k below =
    let values = c.args.values.now in
    let word = c.args.word in
    ap (λ vs. pos (get_or (sel_l (bit_lanes 8 word) (offsets 8 vs) (replicate 8 (2 ^ 63))) k 0)) (take_all 8 values (omega arith))
    ∙ ap (λ xs. pos (get_or (sel_l (bit_lanes 8 word) xs (replicate 8 (2 ^ 63))) k 0)) (offsets_are 8 values c.requires)
    ∙ selected 8 word values c.requires c.all_fit.ensures k below
