use Rattle.std.proofs.Common.{ℕ, List, length, ap, sym, ◌∙◌, subst, ◌<◌, ◌/◌}
use Rattle.std.proofs.lemmas.List.{with_items_is}
use Rattle.tl_lanes.specs.Masks.{bits_of}
use Rattle.tl_lanes.proofs.MaskBits.{NoneFrom}
use Rattle.tl_bits.proofs.SetLemmas.{row_in_words, set_of_put, none_past_set}
use Rattle.tl_bits.proofs.row_sets.RowSet.put.Goals as goal

pub put_bit-requires : goal.put_bit-requires
put_bit-requires c =
    let P : List ℕ → Type 0 = λ words. c.args.row / 64 < length words in
    subst P (sym c.deref_mut.ensures.value)
    (row_in_words c.self.inside.rows c.args.row c.self.inside.words.items c.args.self.now c.self.invariant.0 c.self.view_is c.requires)

pub returns : goal.returns
returns c =
    let same = with_items_is c.self.inside.words c.put_bit.new.words (c.put_bit.ensures.len ∙ c.deref_mut.ensures.len) in
    ap (bits_of c.self.inside.rows) same
    ∙ set_of_put c.self.inside.rows c.args.row c.args.member c.self.inside.words.items c.deref_mut.result.now c.put_bit.new.words c.args.self.now
    c.self.view_is c.deref_mut.ensures.value c.requires c.put_bit.ensures.bits

pub invariant_of-self : goal.invariant_of-self
invariant_of-self c =
    let same = with_items_is c.self.inside.words c.put_bit.new.words (c.put_bit.ensures.len ∙ c.deref_mut.ensures.len) in (
      ap length same ∙ c.put_bit.ensures.len ∙ ap length c.deref_mut.ensures.value ∙ c.self.invariant.0,
      subst (λ words. NoneFrom c.self.inside.rows words) (sym same)
          (none_past_set c.self.inside.rows c.args.row c.args.member c.self.inside.words.items c.deref_mut.result.now c.put_bit.new.words c.args.self.now
          c.self.view_is c.deref_mut.ensures.value c.requires c.put_bit.ensures.bits c.self.invariant.1),
      c.self.invariant.2,
    )
