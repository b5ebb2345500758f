use Rattle.std.proofs.Common.{◌≡◌, ◌+◌, ◌*◌, false, ◌&&◌, ap, sym, ◌∙◌, slice_index_or}
use Rattle.tl_lanes.specs.Masks.{is_bit}
use Rattle.tl_lanes.proofs.MaskBits.{bit_of_and}
use Rattle.tl_filter.proofs.WordLemmas.{bit_of_zero}
use Rattle.tl_filter.proofs.words.narrow_word.Goals as goal

pub returns-then-word-eq0-clause-bits : goal.returns-then-word-eq0-clause-bits
returns-then-word-eq0-clause-bits g c k small =
    let e = bit_of_zero k in
    let f : is_bit c.args.word k ≡ false = ap (λ w. is_bit w k) c.if-word-eq0.true ∙ e in
    e ∙ ap (λ b. b && slice_index_or c.args.test.now (64 * c.args.i + k) false) (sym f)

pub returns-clause-bits : goal.returns-clause-bits
returns-clause-bits g c k small =
    bit_of_and c.args.word c.mask_word.result k
    ∙ ap (λ b. is_bit c.args.word k && b) (c.mask_word.ensures.bits k small)
