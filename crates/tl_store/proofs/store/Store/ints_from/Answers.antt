use Rattle.std.proofs.Common.{◌-◌, ◌%◌, length, take, drop, ap, sym, ◌∙◌, subst, arith}
use Rattle.tl_types.specs.History.{database_of}
use Rattle.tl_store.specs.Reading.{columns_of, column_cells, IsIntColumn}
use Rattle.tl_store.proofs.MaskLemmas.{columns_there, table_shown, kind_there}
use Rattle.tl_store.proofs.store.Store.ints_from.Goals as goal

pub index-requires : goal.index-requires
index-requires g c = omega (arith, c.self.inside.tables.ok.0, columns_there c.self.inside.tables.items c.self.inside.log c.self.inside.stamps c.args.self.now c.args.table c.self.invariant c.self.view_is (omega (arith, kind_there (columns_of (database_of c.args.self.now) c.args.table) c.args.column c.requires.kind)))

pub ints_from-requires-clause-row : goal.ints_from-requires-clause-row
ints_from-requires-clause-row g c =
    let there = columns_there c.self.inside.tables.items c.self.inside.log c.self.inside.stamps c.args.self.now c.args.table c.self.invariant c.self.view_is (omega (arith, kind_there (columns_of (database_of c.args.self.now) c.args.table) c.args.column c.requires.kind)) in
    let shown = table_shown c.self.inside.tables.items c.self.inside.log c.self.inside.stamps c.args.self.now c.args.table c.self.invariant c.self.view_is c.index.result.now c.get.result.now there c.index.ensures c.get.ensures in
    omega (arith, c.requires.row, ap length shown.rows)

pub ints_from-requires-clause-kind : goal.ints_from-requires-clause-kind
ints_from-requires-clause-kind g c =
    let there = columns_there c.self.inside.tables.items c.self.inside.log c.self.inside.stamps c.args.self.now c.args.table c.self.invariant c.self.view_is (omega (arith, kind_there (columns_of (database_of c.args.self.now) c.args.table) c.args.column c.requires.kind)) in
    let shown = table_shown c.self.inside.tables.items c.self.inside.log c.self.inside.stamps c.args.self.now c.args.table c.self.invariant c.self.view_is c.index.result.now c.get.result.now there c.index.ensures c.get.ensures in
    subst (λ columns. IsIntColumn columns c.args.column) shown.columns c.requires.kind

pub returns-clause-cells : goal.returns-clause-cells
returns-clause-cells g c =
    let there = columns_there c.self.inside.tables.items c.self.inside.log c.self.inside.stamps c.args.self.now c.args.table c.self.invariant c.self.view_is (omega (arith, kind_there (columns_of (database_of c.args.self.now) c.args.table) c.args.column c.requires.kind)) in
    let shown = table_shown c.self.inside.tables.items c.self.inside.log c.self.inside.stamps c.args.self.now c.args.table c.self.invariant c.self.view_is c.index.result.now c.get.result.now there c.index.ensures c.get.ensures in
    c.ints_from.ensures.cells
    ∙ ap (λ rows. take (1024 - c.args.row % 1024) (drop c.args.row (column_cells rows c.args.column))) (sym shown.rows)
