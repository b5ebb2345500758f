use Rattle.std.proofs.Common.{arith, ◌∙◌}
use Rattle.tl_types.specs.History.{database_of}
use Rattle.tl_filter.specs.Selecting.{rows_that_pass}
use Rattle.tl_filter.proofs.SelectLemmas.{front_long, asked_inside, asked_same, asked_told}
use Rattle.tl_filter.proofs.blocks.narrow_block.Goals as goal

pub pass_block-requires-clause-inside : goal.pass_block-requires-clause-inside
pass_block-requires-clause-inside g c = asked_inside c.args.block.whole c.args.set.now c.args.block.rows c.args.block.first c.asked_words.new.words c.requires.set c.asked_words.ensures.bits

pub returns-clause-behind : goal.returns-clause-behind
returns-clause-behind g c row from =
    let e = c.asked_words.ensures.long ∙ front_long c.args.count 128 c.requires.room in
    asked_same c.args.block.whole c.args.set.now c.pass_block.new.into row c.pass_block.ensures.rows (c.pass_block.ensures.behind row (omega arith))

pub returns-clause-left : goal.returns-clause-left
returns-clause-left g c row from to =
    let e = c.asked_words.ensures.long ∙ front_long c.args.count 128 c.requires.room in
    asked_told c.args.block.whole c.args.set.now (rows_that_pass (database_of c.args.store.now) c.args.block.table c.args.pred.now) c.args.block.first row c.asked_words.new.words _
    c.asked_words.ensures.bits from (omega arith) (c.pass_block.ensures.put row from (omega arith))
