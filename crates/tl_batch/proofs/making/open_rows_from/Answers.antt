use Rattle.std.proofs.Common.{◌<◌, length, arith}
use Rattle.tl_types.specs.History.{database_of, rows_of}
use Rattle.tl_batch.proofs.MakingLemmas.{count_few, count_step}
use Rattle.tl_batch.proofs.making.open_rows_from.Goals as goal

pub with_one-count-requires : goal.with_one-count-requires
with_one-count-requires g c =
    let most = count_few (rows_of (database_of c.args.store.now) c.args.number) c.loop-row.row in
    let is = c.loop-row.invariant in
    let few = c.rows-row-end.ensures.few in
    let before = c.loop-row-test.true in
    omega arith

pub loop-row-preserved : goal.loop-row-preserved
loop-row-preserved g c =
    let within : c.loop-row.row < length (rows_of (database_of c.args.store.now) c.args.number) =
    let b = c.rows-row-end.ensures.number in
    let before = c.loop-row-test.true in
    omega arith in
    count_step (rows_of (database_of c.args.store.now) c.args.number) c.loop-row.row c.loop-row.count c.with_one-count.result c.is_open_row-is_open.result within c.is_open_row-is_open.ensures c.loop-row.invariant c.with_one-count.ensures
