use Rattle.std.proofs.Common.{◌<◌, length, Some, ap, sym, ◌∙◌, arith}
use Rattle.tl_store.specs.Columns.{column_length}
use Rattle.tl_store.specs.Reading.{cell_of_row}
use Rattle.tl_store.specs.Kept.{Kept}
use Rattle.tl_store.proofs.RowLemmas.{rows_number, row_at, as_many_columns, column_lengths, cell_in_row}
use Rattle.tl_store.proofs.table.TableData.cell.Goals as goal

pub index-column-requires : goal.index-column-requires
index-column-requires c =
    let t = c.self.inside in
    omega (arith, c.requires.column, t.columns.ok.0, as_many_columns (length t.from) t.schema.value.columns t.columns.items c.self.invariant.cells, ap (λ (k : Kept). length k.schema.columns) c.self.view_is)

pub cell-requires : goal.cell-requires
cell-requires c =
    let t = c.self.inside in
    let rows = ap (λ (k : Kept). k.rows) c.self.view_is in
    let number = rows_number t.columns.items t.periods t.from t.to c.args.self.now.rows rows c.self.invariant.even in
    let there : c.args.column < length t.columns.items = omega (arith, c.requires.column, as_many_columns (length t.from) t.schema.value.columns t.columns.items c.self.invariant.cells, ap (λ (k : Kept). length k.schema.columns) c.self.view_is) in
    let long = column_lengths (length t.from) t.schema.value.columns t.columns.items c.self.invariant.cells c.args.column c.index-column.result.now there in
    let same = ap column_length c.index-column.ensures in
    omega (arith, c.requires.row, number, long, same)

pub returns-clause-value : goal.returns-clause-value
returns-clause-value c =
    let t = c.self.inside in
    let rows = ap (λ (k : Kept). k.rows) c.self.view_is in
    let number = rows_number t.columns.items t.periods t.from t.to c.args.self.now.rows rows c.self.invariant.even in
    let there : c.args.column < length t.columns.items = omega (arith, c.requires.column, as_many_columns (length t.from) t.schema.value.columns t.columns.items c.self.invariant.cells, ap (λ (k : Kept). length k.schema.columns) c.self.view_is) in
    let row = row_at t.columns.items t.periods t.from t.to c.args.self.now.rows c.args.row 0 0 rows c.self.invariant.even (omega (arith, c.requires.row, number)) in
    ap Some c.cell.ensures.value ∙ sym (cell_in_row t.columns.items c.args.row c.args.column c.index-column.result.now there c.index-column.ensures) ∙ ap (cell_of_row c.args.column) (sym row)
