use Rattle.std.proofs.Common.{map, ap, sym, ◌∙◌, subst, arith}
use Rattle.tl_types.specs.History.{database_of}
use Rattle.tl_store.specs.Reading.{columns_of, column_cells, IsIntColumn, some_int}
use Rattle.tl_store.proofs.MaskLemmas.{columns_there, table_shown, kind_there}
use Rattle.tl_store.proofs.store.Store.int_column.Goals as goal

pub index-requires : goal.index-requires
index-requires c = omega (arith, c.self.inside.tables.ok.0, columns_there c.self.inside.tables.items c.self.inside.log c.self.inside.stamps c.args.self.now c.args.table c.self.invariant c.self.view_is (omega (arith, kind_there (columns_of (database_of c.args.self.now) c.args.table) c.args.column c.requires)))

pub ints-requires : goal.ints-requires
ints-requires c =
    let there = columns_there c.self.inside.tables.items c.self.inside.log c.self.inside.stamps c.args.self.now c.args.table c.self.invariant c.self.view_is (omega (arith, kind_there (columns_of (database_of c.args.self.now) c.args.table) c.args.column c.requires)) in
    let shown = table_shown c.self.inside.tables.items c.self.inside.log c.self.inside.stamps c.args.self.now c.args.table c.self.invariant c.self.view_is c.index.result.now c.get.result.now there c.index.ensures c.get.ensures in
    subst (λ columns. IsIntColumn columns c.args.column) shown.columns c.requires

pub returns : goal.returns
returns c =
    let there = columns_there c.self.inside.tables.items c.self.inside.log c.self.inside.stamps c.args.self.now c.args.table c.self.invariant c.self.view_is (omega (arith, kind_there (columns_of (database_of c.args.self.now) c.args.table) c.args.column c.requires)) in
    let shown = table_shown c.self.inside.tables.items c.self.inside.log c.self.inside.stamps c.args.self.now c.args.table c.self.invariant c.self.view_is c.index.result.now c.get.result.now there c.index.ensures c.get.ensures in
    ap (map some_int) c.new.ensures ∙ c.ints.ensures ∙ ap (λ rows. column_cells rows c.args.column) (sym shown.rows)
