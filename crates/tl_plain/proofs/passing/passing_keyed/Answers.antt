use Rattle.std.proofs.Common.{◌<◌, ◌+◌, length, take, map, refl, sym, ◌∙◌, arith}
use Rattle.std.specs.Borrow.{Bor}
use Rattle.tl_types.specs.Plain as plain
use Rattle.tl_query.specs.Passing.{passes}
use Rattle.tl_plain.specs.declared.keyed_rows.KeyedRow.{KeyedRow}
use Rattle.tl_plain.proofs.CollectLemmas.{row_taken, row_passed, behind_more}
use Rattle.tl_plain.proofs.passing.passing_keyed.Goals as goal
use Rattle.tl_plain.proofs.passing.passing_keyed.Goals.{then-passes+in_ok-push, else-passes}

pub loop-keyed-preserved : goal.loop-keyed-preserved
loop-keyed-preserved c =
    let rows = map (λ (k : KeyedRow). k.row.now) c.args.rows.now in
    let i = c.loop-keyed.keyed-index in
    let row = c.keyed-item.result in
    let here : i < length c.args.rows.now = omega arith in
    let grown = behind_more (λ (k : KeyedRow). k.row.now) c.args.rows.now i row here c.keyed-item.is in
    elim c.if-passes.branch [
      | then-passes+in_ok-push w ↦
          rw w.passing-is (row_taken (λ (x : Bor plain.Row). x.now) (passes c.args.pred.now) c.loop-keyed.passing.items w.push.new.self.items (take i rows) (take (i + 1) rows) _ row.row.now w.in_ok-push.ensures.items grown refl (sym c.passes.ensures ∙ w.if-passes.true) c.loop-keyed.invariant)
      | else-passes w ↦
          rw w.passing-is (row_passed (λ (x : Bor plain.Row). x.now) (passes c.args.pred.now) c.loop-keyed.passing.items (take i rows) (take (i + 1) rows) row.row.now grown (sym c.passes.ensures ∙ w.if-passes.false) c.loop-keyed.invariant)
    ]
