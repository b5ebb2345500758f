use Rattle.std.proofs.Common.{length, map, Some, sym, ap, ◌∙◌, arith}
use Rattle.std.specs.Option.{option_map}
use Rattle.tl_types.specs.Plain as plain
use Rattle.tl_store.specs.Columns.{cell_in}
use Rattle.tl_store.specs.Kept.{Kept}
use Rattle.tl_store.proofs.RowLemmas.{rows_number, row_at, column_lengths}
use Rattle.tl_store.proofs.table.TableData.row_cells.Goals as goal

pub cells_at-requires : goal.cells_at-requires
cells_at-requires c =
    let t = c.self.inside in
    let rows = ap (λ (k : Kept). k.rows) c.self.view_is in
    let number = rows_number t.columns.items t.periods t.from t.to c.args.self.now.rows rows c.self.invariant.even in
    rw c.as_slice.ensures.value (λ k d h. let long = column_lengths (length t.from) t.schema.value.columns t.columns.items c.self.invariant.cells k d h in omega (arith, c.requires, number, long))

pub returns : goal.returns
returns c =
    let t = c.self.inside in
    let rows = ap (λ (k : Kept). k.rows) c.self.view_is in
    let number = rows_number t.columns.items t.periods t.from t.to c.args.self.now.rows rows c.self.invariant.even in
    let row = row_at t.columns.items t.periods t.from t.to c.args.self.now.rows c.args.row 0 0 rows c.self.invariant.even (omega (arith, c.requires, number)) in
    ap Some (c.in_ok-cells.ensures ∙ ap (map (cell_in c.args.row)) c.as_slice.ensures.value)
    ∙ sym (ap (option_map (λ (r : plain.Row). r.cells)) row)
