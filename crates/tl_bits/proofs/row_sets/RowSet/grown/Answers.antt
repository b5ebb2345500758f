use Rattle.std.proofs.Common.{◌-◌, ◌+◌, ◌++◌, length, ap, sym, ◌∙◌, subst, arith}
use Rattle.std.proofs.lemmas.List.{length-append, length-replicate}
use Rattle.tl_lanes.specs.Masks.{bits_of}
use Rattle.tl_lanes.proofs.MaskBits.{NoneFrom, zeros}
use Rattle.tl_bits.proofs.SetLemmas.{Shows, lent_len, rows_are, set_of_grown, none_past_grown}
use Rattle.tl_bits.proofs.row_sets.RowSet.grown.Goals as goal

pub grown_words-requires : goal.grown_words-requires
grown_words-requires c =
    let s : Shows c.self.inside.rows c.self.inside.words.items c.deref.result.now c.args.self.now =
    record { is = c.self.view_is; lends = c.deref.ensures.value; long = c.self.invariant.0; none = c.self.invariant.1 } in
    let e = lent_len c.self.inside.rows c.self.inside.words.items c.deref.result.now c.args.self.now s in
    omega arith

pub of_words-requires-clause-len : goal.of_words-requires-clause-len
of_words-requires-clause-len c =
    let s : Shows c.self.inside.rows c.self.inside.words.items c.deref.result.now c.args.self.now =
    record { is = c.self.view_is; lends = c.deref.ensures.value; long = c.self.invariant.0; none = c.self.invariant.1 } in
    let e = lent_len c.self.inside.rows c.self.inside.words.items c.deref.result.now c.args.self.now s in
    let m = c.word_count.result - length c.deref.result.now in
    ap length c.in_ok-words.ensures ∙ length-append c.deref.result.now (zeros m)
    ∙ ap (λ k. length c.deref.result.now + k) (length-replicate m 0) ∙ omega arith

pub of_words-requires-clause-none_past : goal.of_words-requires-clause-none_past
of_words-requires-clause-none_past c =
    let m = c.word_count.result - length c.deref.result.now in
    let e = rows_are c.self.inside.rows c.self.inside.words.items c.args.self.now c.self.view_is in
    subst (λ words. NoneFrom c.args.rows words) (sym (c.in_ok-words.ensures ∙ ap (λ words. words ++ zeros m) c.deref.ensures.value))
    (none_past_grown c.self.inside.rows c.args.rows m c.self.inside.words.items c.self.invariant.1 (omega arith))

pub returns : goal.returns
returns c =
    let m = c.word_count.result - length c.deref.result.now in
    c.of_words.ensures
    ∙ ap (bits_of c.args.rows) (c.in_ok-words.ensures ∙ ap (λ words. words ++ zeros m) c.deref.ensures.value)
    ∙ set_of_grown c.self.inside.rows c.args.rows m c.self.inside.words.items c.args.self.now c.self.view_is c.self.invariant.1 c.requires
