use Rattle.std.proofs.Common.{rules, ◌≡◌, Ok}
use Rattle.tl_csv.specs.Block.{batch_with, records_of, rows_of}
use Rattle.tl_csv.specs.LentBlocks.{block_at}
use Rattle.tl_csv.proofs.FittingLemmas.{batch_fits}
use Rattle.tl_csv.proofs.block_readers.BlockReader.read_batch.Goals as goal

pub returns-clause-rows : goal.returns-clause-rows
returns-clause-rows c =
    let read : rows_of c.args.limits.now c.args.schema.now c.args.kind (records_of (block_at c.args.self.now.blocks c.args.place)) ≡ Ok c.in_ok-rows.rows = search rules in
    let batched : c.in_ok-batch_with.field-0 ≡ batch_with c.args.schema.now c.args.kind c.in_ok-rows.rows = search rules in
    batch_fits c.args.limits.now c.args.schema.now c.args.kind (records_of (block_at c.args.self.now.blocks c.args.place)) c.in_ok-rows.rows c.in_ok-batch_with.field-0 c.in_ok-rows.ensures.some c.in_ok-rows.ensures.distinct read batched
