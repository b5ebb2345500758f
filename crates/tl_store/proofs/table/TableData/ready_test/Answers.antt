use Rattle.std.proofs.Common.{◌≡◌, ◌<◌, length, ap, ◌∙◌, arith}
use Rattle.tl_store.specs.Columns.{column_length}
use Rattle.tl_store.specs.Kept.{Kept}
use Rattle.tl_store.specs.Reading.{rows_passing}
use Rattle.tl_store.proofs.RowLemmas.{as_many_columns, column_lengths}
use Rattle.tl_store.proofs.MaskLemmas.{passing_rows}
use Rattle.tl_store.proofs.table.TableData.ready_test.Goals as goal

pub index-column-requires : goal.index-column-requires
index-column-requires c =
    let t = c.self.inside in
    omega (arith, c.requires, t.columns.ok.0, as_many_columns (length t.from) t.schema.value.columns t.columns.items c.self.invariant.cells, ap (λ (k : Kept). length k.schema.columns) c.self.view_is)

pub returns : goal.returns
returns c =
    let t = c.self.inside in
    let column = c.index-column.result.now in
    let there : c.args.column < length t.columns.items = omega (arith, c.requires, as_many_columns (length t.from) t.schema.value.columns t.columns.items c.self.invariant.cells, ap (λ (k : Kept). length k.schema.columns) c.self.view_is) in
    let long : column_length column ≡ length t.from = ap column_length c.index-column.ensures ∙ column_lengths (length t.from) t.schema.value.columns t.columns.items c.self.invariant.cells c.args.column column there in
    c.new.ensures
    ∙ passing_rows t.columns.items t.periods t.from t.to c.args.column column c.args.test.now c.self.invariant.even long there c.index-column.ensures
    ∙ ap (λ (k : Kept). rows_passing k.rows c.args.column c.args.test.now) c.self.view_is
