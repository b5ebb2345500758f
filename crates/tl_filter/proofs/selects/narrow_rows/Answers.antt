use Rattle.std.proofs.Common.{arith}
use Rattle.tl_types.specs.History.{database_of}
use Rattle.tl_filter.specs.Selecting.{rows_that_pass}
use Rattle.tl_filter.proofs.SelectLemmas.{typed_columns, all_left}
use Rattle.tl_filter.proofs.selects.narrow_rows.Goals as goal

pub narrow_block-requires-clause-columns : goal.narrow_block-requires-clause-columns
narrow_block-requires-clause-columns g c = typed_columns (database_of c.args.store.now) c.args.table c.args.pred.now c.requires.typed

pub returns-clause-members : goal.returns-clause-members
returns-clause-members g c =
    let e = c.rows-rows.ensures.number in
    let f = c.requires.rows in
    all_left c.args.whole (rows_that_pass (database_of c.args.store.now) c.args.table c.args.pred.now) c.args.set.now c.loop-first.set c.loop-first.first
    c.loop-first.invariant.long (omega arith) c.loop-first.invariant.told
