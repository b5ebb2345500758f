use Rattle.std.proofs.Common.{◌<◌, length, sym, ◌∙◌, arith}
use Rattle.tl_query.specs.Fields.{row_fields}
use Rattle.tl_plain.specs.Choosing.{is_selected}
use Rattle.tl_plain.proofs.Selecting.{row_kept, row_left}
use Rattle.tl_plain.proofs.selects.select.Goals as goal
use Rattle.tl_plain.proofs.selects.select.Goals.{then-is_selected+in_ok-row_fields+in_ok-push, else-is_selected}

pub loop-row-preserved : goal.loop-row-preserved
loop-row-preserved c =
    let rows = c.args.rows.now in
    let i = c.loop-row.row-index in
    let here : i < length rows = omega arith in
    let p = is_selected c.args.pred.now c.args.valid_at c.args.version in
    let f = row_fields c.args.items.now in
    let row = c.row-item.result in
    let seen = c.is_selected.ensures in
    elim c.if-is_selected.branch [ then-is_selected+in_ok-row_fields+in_ok-push w ↦ row_kept p f rows i row c.loop-row.answer.items c.if-is_selected.answer.items here c.row-item.is (sym seen ∙ w.if-is_selected.true) (cc (w.answer-is, w.in_ok-push.ensures.items, w.in_ok-row_fields.ensures)) c.loop-row.invariant | else-is_selected w ↦ let left = row_left p f rows i row c.loop-row.answer.items here c.row-item.is (sym seen ∙ w.if-is_selected.false) c.loop-row.invariant in rw w.answer-is left ]
