use Rattle.std.proofs.Common.{◌≡◌, ◌+◌, ◌≤◌, ◌&&◌, Some, drop, length, slice_get, sym, ap, ◌∙◌, arith}
use Rattle.std.specs.Cmp.Lexicographic.{pointwise}
use Rattle.tl_types.specs.Plain as plain
use Rattle.tl_types.specs.History.{database_of, same_cell}
use Rattle.tl_store.specs.Reading.{cell_shown}
use Rattle.tl_batch.specs.OpenTables.{table_at}
use Rattle.tl_batch.proofs.OpenTableLemmas.{row_number}
use Rattle.tl_batch.proofs.SameRowLemmas.{lengths_differ, cells_step, cells_end, shown_at}
use Rattle.tl_batch.proofs.open_table.OpenTable.has_cells.Goals as goal

pub returns-then-cells-columns : goal.returns-then-cells-columns
returns-then-cells-columns g c = λ r there.
    sym (lengths_differ r.cells c.args.cells.now (λ same.
    let n = row_number (table_at c.self.inside.store.now c.self.inside.number c.self.inside.schema.now) c.args.self.now c.args.row r c.self.invariant.matching c.self.view_is there in
    let b = ap length c.columns.ensures.value in
    let d = ap (λ (s : plain.Schema). length s.columns) c.self.invariant.same in
    let e = ap (λ (v : plain.Table). length v.schema.columns) c.self.view_is in
    c.if-cells-columns.true (omega arith)))

pub returns-then-not-same : goal.returns-then-not-same
returns-then-not-same g c = λ r there.
    let at : slice_get r.cells c.loop-i.i ≡ Some (cell_shown c.cell-shown.result) = shown_at (database_of c.self.inside.store.now) c.self.inside.number c.args.row c.loop-i.i (table_at c.self.inside.store.now c.self.inside.number c.self.inside.schema.now) c.args.self.now (cell_shown c.cell-shown.result) c.self.invariant.at c.self.view_is c.cell-shown.ensures.value r there in
    sym (sym (c.loop-i.invariant r there) ∙ (cells_step r.cells c.args.cells.now c.loop-i.i (cell_shown c.cell-shown.result) c.index-cells-i.result at (omega arith) c.index-cells-i.is
    ∙ ap (λ b. b && pointwise same_cell (drop (c.loop-i.i + 1) r.cells) (drop (c.loop-i.i + 1) c.args.cells.now)) (sym c.is_cell-same.ensures ∙ c.if-not-same.true)))

pub loop-i-preserved : goal.loop-i-preserved
loop-i-preserved g c = λ r there.
    let at : slice_get r.cells c.loop-i.i ≡ Some (cell_shown c.cell-shown.result) = shown_at (database_of c.self.inside.store.now) c.self.inside.number c.args.row c.loop-i.i (table_at c.self.inside.store.now c.self.inside.number c.self.inside.schema.now) c.args.self.now (cell_shown c.cell-shown.result) c.self.invariant.at c.self.view_is c.cell-shown.ensures.value r there in
    sym (cells_step r.cells c.args.cells.now c.loop-i.i (cell_shown c.cell-shown.result) c.index-cells-i.result at (omega arith) c.index-cells-i.is
    ∙ ap (λ b. b && pointwise same_cell (drop (c.loop-i.i + 1) r.cells) (drop (c.loop-i.i + 1) c.args.cells.now)) (sym c.is_cell-same.ensures ∙ c.if-not-same.false))
    ∙ c.loop-i.invariant r there

pub returns : goal.returns
returns g c = λ r there.
    let n = row_number (table_at c.self.inside.store.now c.self.inside.number c.self.inside.schema.now) c.args.self.now c.args.row r c.self.invariant.matching c.self.view_is there in
    let b = ap length c.columns.ensures.value in
    let d = ap (λ (s : plain.Schema). length s.columns) c.self.invariant.same in
    let e = ap (λ (v : plain.Table). length v.schema.columns) c.self.view_is in
    let f = c.if-cells-columns.false in
    let k : length c.args.cells.now ≤ c.loop-i.i = let h = c.loop-i-test.false in omega arith in
    sym (cells_end r.cells c.args.cells.now c.loop-i.i (omega arith) k) ∙ c.loop-i.invariant r there
