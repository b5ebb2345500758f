use Rattle.std.proofs.Common.{◌<◌, ◌+◌, length, take, refl, sym, ◌∙◌, arith}
use Rattle.std.specs.Borrow.{Bor}
use Rattle.tl_types.specs.Plain as plain
use Rattle.tl_query.specs.Passing.{passes}
use Rattle.tl_plain.proofs.CollectLemmas.{row_taken, row_passed, taken_more}
use Rattle.tl_plain.proofs.passing.passing_rows.Goals as goal
use Rattle.tl_plain.proofs.passing.passing_rows.Goals.{then-passes+in_ok-push, else-passes}

pub loop-row-preserved : goal.loop-row-preserved
loop-row-preserved c =
    let rows = c.args.rows.now in
    let i = c.loop-row.row-index in
    let row = c.row-item.result in
    let here : i < length rows = omega arith in
    let grown = taken_more rows i row here c.row-item.is in
    elim c.if-passes.branch [
      | then-passes+in_ok-push w ↦
          rw w.passing-is (row_taken (λ (x : Bor plain.Row). x.now) (passes c.args.pred.now) c.loop-row.passing.items w.push.new.self.items (take i rows) (take (i + 1) rows) _ row w.in_ok-push.ensures.items grown refl (sym c.passes.ensures ∙ w.if-passes.true) c.loop-row.invariant)
      | else-passes w ↦
          rw w.passing-is (row_passed (λ (x : Bor plain.Row). x.now) (passes c.args.pred.now) c.loop-row.passing.items (take i rows) (take (i + 1) rows) row grown (sym c.passes.ensures ∙ w.if-passes.false) c.loop-row.invariant)
    ]
