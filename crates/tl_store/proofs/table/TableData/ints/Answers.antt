use Rattle.std.proofs.Common.{◌≡◌, ◌<◌, length, ap, sym, ◌∙◌, subst, arith}
use Rattle.tl_store.specs.Columns.{column_length, cells_in}
use Rattle.tl_store.specs.Kept.{Kept}
use Rattle.tl_store.specs.Reading.{column_cells, IsIntColumn}
use Rattle.tl_store.proofs.RowLemmas.{as_many_columns, column_lengths}
use Rattle.tl_store.proofs.MaskLemmas.{cells_of_rows, all_ints_of_rows, kind_there, int_column}
use Rattle.tl_store.proofs.table.TableData.ints.Goals as goal

pub index-column-requires : goal.index-column-requires
index-column-requires c =
    let t = c.self.inside in
    omega (arith, kind_there c.args.self.now.schema.columns c.args.column c.requires, t.columns.ok.0, as_many_columns (length t.from) t.schema.value.columns t.columns.items c.self.invariant.cells, ap (λ (k : Kept). length k.schema.columns) c.self.view_is)

pub ints-requires : goal.ints-requires
ints-requires c =
    let t = c.self.inside in
    let kind = subst (λ (k : Kept). IsIntColumn k.schema.columns c.args.column) (sym c.self.view_is) c.requires in
    int_column (length t.from) t.schema.value.columns t.columns.items c.args.column c.index-column.result.now c.self.invariant.cells kind c.index-column.ensures

pub returns : goal.returns
returns c =
    let t = c.self.inside in
    let column = c.index-column.result.now in
    let there : c.args.column < length t.columns.items = omega (arith, kind_there c.args.self.now.schema.columns c.args.column c.requires, as_many_columns (length t.from) t.schema.value.columns t.columns.items c.self.invariant.cells, ap (λ (k : Kept). length k.schema.columns) c.self.view_is) in
    let long : column_length column ≡ length t.from = ap column_length c.index-column.ensures ∙ column_lengths (length t.from) t.schema.value.columns t.columns.items c.self.invariant.cells c.args.column column there in
    let cells = ap (λ (k : Kept). column_cells k.rows c.args.column) (sym c.self.view_is) ∙ cells_of_rows t.columns.items t.periods t.from t.to c.args.column column c.self.invariant.even long there c.index-column.ensures in
    all_ints_of_rows c.args.self.now.rows c.args.column (cells_in column) c.ints.result.now cells c.ints.ensures
