use Rattle.std.proofs.Common.{Ok, Err, sym}
use Rattle.tl_csv.specs.LentBlocks.{block_at}
use Rattle.tl_types.specs.History.{database_of}
use Rattle.tl_types.proofs.FoundTables.{table_found}
use Rattle.tl_jobs.proofs.ReadingLemmas.{lent_load, batch_fits, batch_known}
use Rattle.tl_jobs.proofs.readings.load.Goals as goal

pub schema-schema-requires : goal.schema-schema-requires
schema-schema-requires c = (table_found (database_of c.args.store.now) c.args.name.now.text c.in-Some.number (rw c.as_str.ensures.bytes at (sym c.in-Some.ensures))).within

pub returns-in-Ok-clause-reads : goal.returns-in-Ok-clause-reads
returns-in-Ok-clause-reads c =
    sym (lent_load c.args.store.now c.args.name.now.text c.args.kind (block_at c.args.reader.now.blocks c.args.place) c.in-Some.number c.schema-schema.result.now c.standard-limits.result (Ok c.in-Ok.batch) c.standard-limits.ensures (rw c.as_str.ensures.bytes at (sym c.in-Some.ensures)) c.schema-schema.ensures.value c.in-Ok.ensures.batch)

pub returns-in-Ok-clause-matching : goal.returns-in-Ok-clause-matching
returns-in-Ok-clause-matching c =
    batch_fits (database_of c.args.store.now) c.args.name.now.text c.in-Some.number c.schema-schema.result.now c.standard-limits.result c.args.kind c.in-Ok.batch (rw c.as_str.ensures.bytes at (sym c.in-Some.ensures)) c.schema-schema.ensures.value c.in-Ok.ensures.rows

pub returns-in-Ok-clause-known : goal.returns-in-Ok-clause-known
returns-in-Ok-clause-known c =
    batch_known (database_of c.args.store.now) c.args.name.now.text c.in-Some.number c.schema-schema.result.now c.standard-limits.result c.args.kind c.in-Ok.batch (rw c.as_str.ensures.bytes at (sym c.in-Some.ensures)) c.schema-schema.ensures.value c.in-Ok.ensures.rows

pub returns-in_ok-csv_refusal-in-Err-clause-reads : goal.returns-in_ok-csv_refusal-in-Err-clause-reads
returns-in_ok-csv_refusal-in-Err-clause-reads c =
    let none = lent_load c.args.store.now c.args.name.now.text c.args.kind (block_at c.args.reader.now.blocks c.args.place) c.in-Some.number c.schema-schema.result.now c.standard-limits.result (Err c.in-Err.fault) c.standard-limits.ensures (rw c.as_str.ensures.bytes at (sym c.in-Some.ensures)) c.schema-schema.ensures.value (c.in-Err.ensures.fault c.in_ok-csv_refusal-in-Err.ensures.told) in
    rw c.in_ok-csv_refusal-in-Err.ensures.why (sym none)
