use Rattle.std.proofs.Common.{sym, arith, refl, slice_set, length}
use Rattle.std.proofs.lemmas.Option.{slice_get_read}
use Rattle.tl_store.specs.Reading.{cell_shown}
use Rattle.tl_app.specs.Groups.{column_rows}
use Rattle.tl_app.proofs.DealLemmas.{deal_step}
use Rattle.tl_app.proofs.keyed.deal.Goals as goal

pub returns-clause-dealt : goal.returns-clause-dealt
returns-clause-dealt g c = λ done dealt.
    let number = c.in_ok-number.number in
    let reached = c.reach_number.new.groups.items in
    let counted = c.count.ensures in
    let more = c.in_ok-number.ensures.count in
    let count = c.requires.count in
    let below = c.in_ok-number.ensures.apart.below (cell_shown c.cell-key.result) number c.in_ok-number.ensures.number in
    let enough = c.in_ok-reach_number.ensures.enough (omega arith) in
    deal_step (column_rows c.args.by.now) c.args.by.now.column c.args.keys.now c.number.new.self c.args.event (cell_shown c.cell-key.result) number
    (sym c.cell-key.ensures.value) c.in_ok-number.ensures.number c.in_ok-number.ensures.apart c.in_ok-number.ensures.kept c.in_ok-number.ensures.count
    c.args.groups.now.items reached (slice_set reached number c.put_event.new.group) c.index_mut.result.now c.put_event.new.group done
    (λ l. c.in_ok-reach_number.ensures.more (omega (arith, l))) (λ l. c.in_ok-reach_number.ensures.same (omega (arith, l)))
    (slice_get_read reached (length reached) number c.index_mut.result.now refl (omega arith) c.index_mut.ensures.value) refl c.in_ok-put_event.ensures.events c.in_ok-put_event.ensures.key dealt
