use Rattle.std.proofs.Common.{length, map, ap, ◌∙◌, arith, refl}
use Rattle.tl_store.specs.Columns.{cell_in}
use Rattle.tl_store.specs.Kept.{Kept}
use Rattle.tl_store.proofs.RowLemmas.{rows_number, row_at, column_lengths}
use Rattle.tl_store.proofs.table.TableData.opened_at.Goals as goal

pub cells_at-requires : goal.cells_at-requires
cells_at-requires c =
    let t = c.self.inside in
    let rows = ap (λ (k : Kept). k.rows) c.self.view_is in
    let number = rows_number t.columns.items t.periods t.from t.to c.args.self.now.rows rows c.self.invariant.even in
    rw c.as_slice.ensures.value (λ k d h. let long = column_lengths (length t.from) t.schema.value.columns t.columns.items c.self.invariant.cells k d h in omega (arith, c.requires, number, long))

pub returns : goal.returns
returns c =
    let t = c.self.inside in
    let rows = ap (λ (k : Kept). k.rows) c.self.view_is in
    let number = rows_number t.columns.items t.periods t.from t.to c.args.self.now.rows rows c.self.invariant.even in
    let row = row_at t.columns.items t.periods t.from t.to c.args.self.now.rows c.args.row 0 0 rows c.self.invariant.even (omega (arith, c.requires, number)) in
    let cells = c.from_vec.ensures ∙ c.in_ok-cells.ensures ∙ ap (map (cell_in c.args.row)) c.as_slice.ensures.value in
    rw (row, c.new.ensures, cells, c.get.ensures) refl
