use Rattle.std.proofs.Common.{arith, length, ap}
use Rattle.tl_types.specs.Plain as plain
use Rattle.tl_types.specs.History.{database_of}
use Rattle.tl_batch.specs.OpenTables.{table_at}
use Rattle.tl_batch.proofs.OpenTableLemmas.{cells_at}
use Rattle.tl_batch.proofs.open_table.OpenTable.row_cells.Goals as goal

pub returns-clause-number : goal.returns-clause-number
returns-clause-number g c =
    rw (← c.self.view_is) (cells_at (database_of c.self.inside.store.now) c.self.inside.number c.args.row (table_at c.self.inside.store.now c.self.inside.number c.self.inside.schema.now) c.in_ok-cells.cells c.self.invariant.at c.self.invariant.matching c.in_ok-cells.ensures.value)

pub returns-clause-few : goal.returns-clause-few
returns-clause-few g c =
    let number = cells_at (database_of c.self.inside.store.now) c.self.inside.number c.args.row (table_at c.self.inside.store.now c.self.inside.number c.self.inside.schema.now) c.in_ok-cells.cells c.self.invariant.at c.self.invariant.matching c.in_ok-cells.ensures.value in
    let same = ap (λ (s : plain.Schema). length s.columns) c.self.invariant.same in
    let few = c.columns-columns.ensures.few in
    omega arith

pub returns-clause-some : goal.returns-clause-some
returns-clause-some g c =
    let number = cells_at (database_of c.self.inside.store.now) c.self.inside.number c.args.row (table_at c.self.inside.store.now c.self.inside.number c.self.inside.schema.now) c.in_ok-cells.cells c.self.invariant.at c.self.invariant.matching c.in_ok-cells.ensures.value in
    let same = ap (λ (s : plain.Schema). length s.columns) c.self.invariant.same in
    let some = c.columns-columns.ensures.some in
    omega arith
