use Rattle.std.proofs.Common.{rules, ◌∙◌, ◌++◌}
use Rattle.tl_log.specs.Rows.{cells_from}
use Rattle.tl_log.proofs.RowLemmas.{cells_more}
use Rattle.tl_log.proofs.rows.push_cells.Goals as goal

pub loop-place-preserved : goal.loop-place-preserved
loop-place-preserved g c = record {
  rows = c.in_ok-push.ensures.rows ∙ c.loop-place.invariant.rows;
  row = λ r is. cells_more r.cells c.args.table.now.schema.columns c.loop-place.place _ c.loop-place.rows.row c.push.new.self.row
      (c.args.rows.now.row ++ cells_from r.cells 0 c.args.table.now.schema.columns)
      (search rules) (c.cell-cell.ensures r is) (search rules) (c.loop-place.invariant.row r is);
}
