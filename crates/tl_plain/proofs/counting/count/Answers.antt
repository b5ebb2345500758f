use Rattle.std.proofs.Common.{◌<◌, length, ap, sym, ◌∙◌, arith, w64}
use mir.Val.{to_z, of_z}
use Rattle.std.specs.Borrow.{Bor}
use Rattle.std.proofs.lemmas.Int.{to_z-of_z}
use Rattle.tl_types.specs.Plain as plain
use Rattle.tl_plain.specs.Choosing.{lent, is_there, there_at}
use Rattle.tl_plain.proofs.CollectLemmas.{behind_item, behind_within, lent_all}
use Rattle.tl_plain.proofs.CountLemmas.{count_kept, count_left}
use Rattle.tl_plain.proofs.counting.count.Goals as goal
use Rattle.tl_plain.proofs.counting.count.Goals.{then-is_there, else-is_there}

pub loop-row-preserved : goal.loop-row-preserved
loop-row-preserved c =
    let was = c.loop-row.invariant in
    let i = c.loop-row.row-index in
    let here : i < length c.args.rows.now = omega arith in
    let within = behind_within (λ (r : Bor plain.Row). r.now) c.args.rows.now i here in
    let is = behind_item (λ (r : Bor plain.Row). r.now) c.args.rows.now i c.row-item.result here c.row-item.is in
    let p = is_there c.args.span (to_z w64 (of_z w64 c.args.moment)) in
    elim c.if-is_there.branch [
      | then-is_there w ↦ record { few = omega (arith, was.few, w.count-is); there = count_kept p (lent c.args.rows.now) i c.row-item.result.now c.loop-row.count c.if-is_there.count within is (sym c.is_there.ensures ∙ w.if-is_there.true) w.count-is was.there }
      | else-is_there w ↦ rw w.count-is (record { few = omega (arith, was.few); there = count_left p (lent c.args.rows.now) i c.row-item.result.now c.loop-row.count within is (sym c.is_there.ensures ∙ w.if-is_there.false) was.there })
    ]

pub returns : goal.returns
returns c =
    let all = lent_all c.args.rows.now c.loop-row.row-index c.loop-row-test.false in
    let same = to_z-of_z w64 c.args.moment c.ranges.moment in
    c.loop-row.invariant.there ∙ ap (λ rows. length (there_at c.args.span rows (to_z w64 (of_z w64 c.args.moment)))) all ∙ ap (λ m. length (there_at c.args.span (lent c.args.rows.now) m)) same
