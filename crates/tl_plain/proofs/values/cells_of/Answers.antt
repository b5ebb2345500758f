use Rattle.std.proofs.Common.{◌<◌, ◌+◌, length, take, arith}
use Rattle.std.specs.Borrow.{Bor}
use Rattle.tl_types.specs.declared.cells.Cell.{Cell}
use Rattle.tl_types.specs.History.{cell_at}
use Rattle.tl_types.specs.Plain as plain
use Rattle.tl_plain.proofs.CollectLemmas.{item_taken, item_passed, taken_more}
use Rattle.tl_plain.proofs.values.cells_of.Goals as goal
use Rattle.tl_plain.proofs.values.cells_of.Goals.{in-Some+in_ok-push, in_default}

pub loop-row-preserved : goal.loop-row-preserved
loop-row-preserved c =
    let rows = c.args.rows.now in
    let i = c.loop-row.row-index in
    let row = c.row-item.result in
    let here : i < length rows = omega arith in
    let grown = taken_more rows i row here c.row-item.is in
    elim c.match-cell_in.branch [
      | in-Some+in_ok-push w ↦
          item_taken (λ (x : Bor Cell). x.now) (λ (r : plain.Row). cell_at r.cells c.args.column) c.loop-row.cells.items c.match-cell_in.cells.items (take i rows) (take (i + 1) rows) w.in-Some.cell row (cc (w.cells-is, w.in_ok-push.ensures.items)) grown w.in-Some.ensures c.loop-row.invariant
      | in_default w ↦
          rw w.cells-is (item_passed (λ (x : Bor Cell). x.now) (λ (r : plain.Row). cell_at r.cells c.args.column) c.loop-row.cells.items (take i rows) (take (i + 1) rows) row grown w.in_default.ensures c.loop-row.invariant)
    ]
