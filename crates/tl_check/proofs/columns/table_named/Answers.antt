use Rattle.std.proofs.Common.{sym}
use Rattle.tl_types.specs.History.{database_of}
use Rattle.tl_types.proofs.FoundTables.{table_found}
use Rattle.tl_query.proofs.NamedTables.{named_found}
use Rattle.tl_check.proofs.columns.table_named.Goals as goal

pub schema-requires : goal.schema-requires
schema-requires c = (table_found (database_of c.args.store.now) c.args.name.now.text c.in-Some.number (rw c.as_str.ensures.bytes at (sym c.in-Some.ensures))).within

pub returns-in-Some : goal.returns-in-Some
returns-in-Some c = named_found (database_of c.args.store.now) c.args.name.now c.in-Some.number c.schema.result.now (rw c.as_str.ensures.bytes at (sym c.in-Some.ensures)) c.schema.ensures.value
