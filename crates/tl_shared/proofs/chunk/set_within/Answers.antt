use Rattle.std.proofs.Common.{◌%◌, length, get_or, take, set, sym, ap, ◌∙◌, arith}
use Rattle.tl_shared.specs.Chunks.{set_within}
use Rattle.tl_shared.proofs.Groups.{length-set_within, within_more}
use Rattle.tl_shared.proofs.chunk.set_within.Goals as goal

pub index_mut-requires : goal.index_mut-requires
index_mut-requires g c =
    omega (
      arith,
      c.loop-place.items.ok.0,
      c.requires.places c.loop-place.place-index 0 c.loop-place-test.true,
      ap length c.loop-place.invariant,
      length-set_within g.row.SIZE c.args.item.now c.args.items.now.items (take c.loop-place.place-index c.args.places.now),
    )

pub loop-place-preserved : goal.loop-place-preserved
loop-place-preserved g c =
    let places = c.args.places.now in
    let i = c.loop-place.place-index in
    let at = get_or places i 0 % g.row.SIZE in
    ap (λ t. set t at c.in_ok-items.field-0) c.loop-place.invariant
    ∙ ap (λ v. set (set_within g.row.SIZE c.args.item.now c.args.items.now.items (take i places)) at v) c.in_ok-items.ensures
    ∙ sym (within_more g.row.SIZE c.args.item.now c.args.items.now.items places i 0 c.loop-place-test.true)
