use Rattle.std.proofs.Common.{length, ap, sym, ◌∙◌, arith}
use Rattle.tl_store.specs.Reading.{rows_passing}
use Rattle.tl_store.proofs.MaskLemmas.{columns_there, table_shown}
use Rattle.tl_store.proofs.store.Store.ready_test.Goals as goal

pub index-requires : goal.index-requires
index-requires c = omega (arith, c.self.inside.tables.ok.0, columns_there c.self.inside.tables.items c.self.inside.log c.self.inside.stamps c.args.self.now c.args.table c.self.invariant c.self.view_is (omega (arith, c.requires)))

pub ready_test-requires : goal.ready_test-requires
ready_test-requires c =
    let there = columns_there c.self.inside.tables.items c.self.inside.log c.self.inside.stamps c.args.self.now c.args.table c.self.invariant c.self.view_is (omega (arith, c.requires)) in
    let shown = table_shown c.self.inside.tables.items c.self.inside.log c.self.inside.stamps c.args.self.now c.args.table c.self.invariant c.self.view_is c.index.result.now c.get.result.now there c.index.ensures c.get.ensures in
    omega (arith, c.requires, ap length shown.columns)

pub returns : goal.returns
returns c =
    let there = columns_there c.self.inside.tables.items c.self.inside.log c.self.inside.stamps c.args.self.now c.args.table c.self.invariant c.self.view_is (omega (arith, c.requires)) in
    let shown = table_shown c.self.inside.tables.items c.self.inside.log c.self.inside.stamps c.args.self.now c.args.table c.self.invariant c.self.view_is c.index.result.now c.get.result.now there c.index.ensures c.get.ensures in
    c.ready_test.ensures ∙ ap (λ rows. rows_passing rows c.args.test.now.column c.args.test.now) (sym shown.rows)
