use Rattle.std.proofs.Common.{◌≡◌, ap, ◌∙◌, arith, length}
use Rattle.tl_types.specs.History.{database_of}
use Rattle.tl_store.specs.Reading.{cell_shown, columns_of}
use Rattle.tl_exec.proofs.FullLemmas.{cell_more, cells_all, full_row}
use Rattle.tl_exec.proofs.shown_pairs.push_cells.Goals as goal

pub loop-column-preserved : goal.loop-column-preserved
loop-column-preserved g c = record {
  rows = c.in_ok-push.ensures.rows ∙ c.loop-column.invariant.rows;
  cells = λ r there. cell_more (database_of c.args.store.now) c.args.table c.args.row c.loop-column.column r c.args.rows.now.row c.loop-column.rows.row c.push.new.self.row
      _ (cell_shown c.cell-cell.result) there c.cell-cell.ensures.value (c.loop-column.invariant.cells r there) c.cell_field.ensures c.in_ok-push.ensures.row;
  steps = let e = c.cell-cell.ensures.ticks in let f = c.loop-column.invariant.steps in omega arith;
}

pub returns-clause-cells : goal.returns-clause-cells
returns-clause-cells g c = λ r there.
    let full = full_row c.args.store.now c.args.table c.args.row r c.requires.fitting there in
    let many : length c.columns.result.now ≡ length (columns_of (database_of c.args.store.now) c.args.table) = ap length (c.columns.ensures.value ∙ c.schema.ensures.columns) in
    let few = ap length c.columns.ensures.value in
    let sixteen = c.columns.ensures.few in
    cells_all c.args.rows.now.row c.loop-column.rows.row r.cells c.loop-column.column (omega arith) (c.loop-column.invariant.cells r there)
