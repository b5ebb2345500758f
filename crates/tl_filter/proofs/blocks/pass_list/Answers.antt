use Rattle.std.proofs.Common.{length, sym}
use Rattle.tl_types.specs.History.{database_of, rows_of}
use Rattle.tl_filter.proofs.SelectLemmas.{left_inside, widened}
use Rattle.tl_filter.proofs.blocks.pass_list.Goals as goal

pub narrow_all-requires-clause-inside : goal.narrow_all-requires-clause-inside
narrow_all-requires-clause-inside g c =
    left_inside (length (rows_of (database_of c.args.store.now) c.args.block.table)) c.args.block.first c.args.base.now c.args.done.now c.leave.new.left
    (sym c.requires.long) c.leave.ensures c.requires.inside

pub returns-clause-bits : goal.returns-clause-bits
returns-clause-bits g c f were =
    widened f (rows_of (database_of c.args.store.now) c.args.block.table) c.args.tests.now c.args.block.first c.args.base.now c.args.done.now
    c.leave.new.left c.narrow_all.new.words c.join.new.words c.leave.ensures c.narrow_all.ensures.bits c.join.ensures were
