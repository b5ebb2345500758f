use Rattle.std.proofs.Common.{◌≡◌, length, ap, sym, refl, ◌∙◌, subst, arith}
use Rattle.std.proofs.lemmas.List.{with_items_is, length-set}
use Rattle.tl_lanes.specs.Masks.{bits_of}
use Rattle.tl_lanes.proofs.MaskBits.{NoneFrom}
use Rattle.tl_bits.specs.Sets.{is_member}
use Rattle.tl_bits.proofs.SetLemmas.{Shows, lent_len, puts_word, none_past_word, member_is_bit}
use Rattle.tl_bits.proofs.row_sets.RowSet.put_word.Goals as goal

pub put_word-requires : goal.put_word-requires
put_word-requires c =
    let s : Shows c.self.inside.rows c.self.inside.words.items c.deref_mut.result.now c.args.self.now =
    record { is = c.self.view_is; lends = c.deref_mut.ensures.value; long = c.self.invariant.0; none = c.self.invariant.1 } in
    let e = lent_len c.self.inside.rows c.self.inside.words.items c.deref_mut.result.now c.args.self.now s in
    let f = c.requires.word in
    omega arith

pub invariant_of-self : goal.invariant_of-self
invariant_of-self c =
    let s : Shows c.self.inside.rows c.self.inside.words.items c.deref_mut.result.now c.args.self.now =
    record { is = c.self.view_is; lends = c.deref_mut.ensures.value; long = c.self.invariant.0; none = c.self.invariant.1 } in
    let len : length c.put_word.new.words ≡ length c.deref_mut.result.now = ap length c.put_word.ensures ∙ length-set c.deref_mut.result.now c.args.i c.args.bits in
    let same = with_items_is c.self.inside.words c.put_word.new.words (len ∙ c.deref_mut.ensures.len) in (
      ap length same ∙ len ∙ ap length c.deref_mut.ensures.value ∙ c.self.invariant.0,
      subst (λ words. NoneFrom c.self.inside.rows words) (sym same)
          (none_past_word c.self.inside.rows c.self.inside.words.items c.deref_mut.result.now c.put_word.new.words c.args.self.now s c.args.i c.args.bits
          c.requires.word c.requires.none_past c.put_word.ensures),
      c.self.invariant.2,
    )

pub returns-clause-members : goal.returns-clause-members
returns-clause-members c row =
    let s : Shows c.self.inside.rows c.self.inside.words.items c.deref_mut.result.now c.args.self.now =
    record { is = c.self.view_is; lends = c.deref_mut.ensures.value; long = c.self.invariant.0; none = c.self.invariant.1 } in
    let len : length c.put_word.new.words ≡ length c.deref_mut.result.now = ap length c.put_word.ensures ∙ length-set c.deref_mut.result.now c.args.i c.args.bits in
    let same = with_items_is c.self.inside.words c.put_word.new.words (len ∙ c.deref_mut.ensures.len) in
    let none = none_past_word c.self.inside.rows c.self.inside.words.items c.deref_mut.result.now c.put_word.new.words c.args.self.now s c.args.i c.args.bits
    c.requires.word c.requires.none_past c.put_word.ensures in
    ap (λ words. is_member (bits_of c.self.inside.rows words) row) same
    ∙ member_is_bit c.self.inside.rows c.put_word.new.words (bits_of c.self.inside.rows c.put_word.new.words) refl none row
    ∙ puts_word c.self.inside.rows c.self.inside.words.items c.deref_mut.result.now c.put_word.new.words c.args.self.now s c.args.i c.args.bits
    c.requires.word c.requires.none_past c.put_word.ensures row
