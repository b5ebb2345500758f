use Rattle.std.proofs.Common.{ℕ, ◌<◌, ◌/◌, List, length, subst, sym, ◌∙◌, ap}
use Rattle.tl_lanes.specs.Masks.{bit_of}
use Rattle.tl_bits.proofs.SetLemmas.{row_in_words, member_is_bit}
use Rattle.tl_bits.proofs.row_sets.RowSet.test.Goals as goal

pub has_bit-requires : goal.has_bit-requires
has_bit-requires g c =
    let P : List ℕ → Type 0 = λ words. c.args.row / 64 < length words in
    subst P (sym c.deref.ensures.value)
    (row_in_words c.self.inside.rows c.args.row c.self.inside.words.items c.args.self.now c.self.invariant.0 c.self.view_is c.requires)

pub returns-clause-member : goal.returns-clause-member
returns-clause-member g c =
    c.has_bit.ensures.bit ∙ ap (λ words. bit_of words c.args.row) c.deref.ensures.value
    ∙ sym (member_is_bit c.self.inside.rows c.self.inside.words.items c.args.self.now c.self.view_is c.self.invariant.1 c.args.row)
