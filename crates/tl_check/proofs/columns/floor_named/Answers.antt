use Rattle.std.proofs.Common.{sym, ◌∙◌, ap}
use Rattle.tl_types.specs.History.{database_of, floor_of}
use Rattle.tl_types.specs.Plain as plain
use Rattle.tl_types.proofs.FoundTables.{table_found}
use Rattle.tl_check.proofs.TypedLemmas.{floor_found}
use Rattle.tl_check.proofs.columns.floor_named.Goals as goal

pub floor-requires : goal.floor-requires
floor-requires c = (table_found (database_of c.args.store.now) c.args.name.now.text c.in-Some.number (rw c.as_str.ensures.bytes at (sym c.in-Some.ensures))).within

pub returns-in-Some : goal.returns-in-Some
returns-in-Some c = c.floor.ensures ∙ floor_found (database_of c.args.store.now) c.args.name.now c.in-Some.number (rw c.as_str.ensures.bytes at (sym c.in-Some.ensures))
