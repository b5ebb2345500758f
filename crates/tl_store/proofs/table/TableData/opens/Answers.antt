use Rattle.std.proofs.Common.{◌+◌, ◌∷◌, [], ◌++◌, refl, ap, sym, ◌∙◌, arith}
use Rattle.tl_store.proofs.RowLemmas.{part_more}
use Rattle.tl_store.proofs.table.TableData.opens.Goals as goal

pub loop-place-preserved : goal.loop-place-preserved
loop-place-preserved g c =
    let first = c.args.first in
    let place = c.loop-place.place in
    let opened = c.in_ok-opened_at.field-0 in
    record {
      value =
          c.in_ok-push.ensures.items
          ∙ ap (λ t. t ++ opened ∷ []) c.loop-place.invariant.value
          ∙ sym (part_more c.args.self.now.rows first place (first + place) opened refl (omega (arith, c.requires)) c.in_ok-opened_at.ensures);
      ticks = omega (arith, c.tick.ensures, c.loop-place.invariant.ticks);
    }
