use Rattle.std.proofs.Common.{◌∙◌, ap, arith}
use Rattle.tl_lanes.specs.Masks.{is_bit}
use Rattle.tl_bits.proofs.SetLemmas.{Shows, lent_len, word_is, word_bits}
use Rattle.tl_bits.proofs.row_sets.RowSet.word.Goals as goal

pub word_at-requires : goal.word_at-requires
word_at-requires g c =
    let s : Shows c.self.inside.rows c.self.inside.words.items c.deref.result.now c.args.self.now =
    record { is = c.self.view_is; lends = c.deref.ensures.value; long = c.self.invariant.0; none = c.self.invariant.1 } in
    let e = lent_len c.self.inside.rows c.self.inside.words.items c.deref.result.now c.args.self.now s in
    omega arith

pub returns-clause-value : goal.returns-clause-value
returns-clause-value g c =
    let s : Shows c.self.inside.rows c.self.inside.words.items c.deref.result.now c.args.self.now =
    record { is = c.self.view_is; lends = c.deref.ensures.value; long = c.self.invariant.0; none = c.self.invariant.1 } in
    word_is c.self.inside.rows c.self.inside.words.items c.deref.result.now c.args.self.now s c.args.i c.word_at.result c.word_at.ensures.word c.word_at.ensures.fits

pub returns-clause-bits : goal.returns-clause-bits
returns-clause-bits g c k small =
    let s : Shows c.self.inside.rows c.self.inside.words.items c.deref.result.now c.args.self.now =
    record { is = c.self.view_is; lends = c.deref.ensures.value; long = c.self.invariant.0; none = c.self.invariant.1 } in
    ap (λ w. is_bit w k) c.word_at.ensures.word
    ∙ word_bits c.self.inside.rows c.self.inside.words.items c.deref.result.now c.args.self.now s c.args.i k small
