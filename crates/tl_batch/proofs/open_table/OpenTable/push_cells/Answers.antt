use Rattle.std.proofs.Common.{◌≤◌, length, ap, arith}
use Rattle.tl_types.specs.Plain as plain
use Rattle.tl_types.specs.History.{database_of}
use Rattle.tl_store.specs.Reading.{cell_shown}
use Rattle.tl_batch.specs.OpenTables.{table_at}
use Rattle.tl_batch.proofs.OpenTableLemmas.{cell_more, cells_all, row_number}
use Rattle.tl_batch.proofs.open_table.OpenTable.push_cells.Goals as goal

pub loop-column-preserved : goal.loop-column-preserved
loop-column-preserved g c =
    cell_more (database_of c.self.inside.store.now) c.self.inside.number c.args.row c.loop-column.column (table_at c.self.inside.store.now c.self.inside.number c.self.inside.schema.now) c.args.self.now (cell_shown c.cell.result) c.in_ok-cell.cell c.args.cells.now c.loop-column.cells c.push.new.self c.self.invariant.at c.self.view_is c.cell.ensures.value c.in_ok-cell.ensures c.in_ok-push.ensures.ok c.loop-column.invariant

pub returns-clause-value : goal.returns-clause-value
returns-clause-value g c =
    let all : length c.args.self.now.schema.columns ≤ c.loop-column.column =
    let a = c.loop-column-test.false in
    let b = ap length c.columns.ensures.value in
    let d = ap (λ (s : plain.Schema). length s.columns) c.self.invariant.same in
    let e = ap (λ (v : plain.Table). length v.schema.columns) c.self.view_is in
    omega arith in
    cells_all (table_at c.self.inside.store.now c.self.inside.number c.self.inside.schema.now) c.args.self.now c.args.row c.loop-column.column c.args.cells.now c.loop-column.cells c.self.invariant.matching c.self.view_is all c.loop-column.invariant

pub returns-clause-number : goal.returns-clause-number
returns-clause-number g c = λ r there.
    let n = row_number (table_at c.self.inside.store.now c.self.inside.number c.self.inside.schema.now) c.args.self.now c.args.row r c.self.invariant.matching c.self.view_is there in
    let some = c.columns.ensures.some in
    let few = c.columns.ensures.few in
    let d = ap (λ (s : plain.Schema). length s.columns) c.self.invariant.same in
    let e = ap (λ (v : plain.Table). length v.schema.columns) c.self.view_is in
    (omega arith, omega arith)
