use Rattle.std.proofs.Common.{length, subst, arith}
use Rattle.tl_types.specs.History.{database_of}
use Rattle.tl_filter.specs.Selecting.{rows_that_pass}
use Rattle.tl_filter.specs.Words.{HaveNonePast}
use Rattle.tl_filter.proofs.SelectLemmas.{zeros_front, within_rows, rows_told}
use Rattle.tl_filter.proofs.blocks.pass_block.Goals as goal

pub pass-requires-clause-inside : goal.pass-requires-clause-inside
pass-requires-clause-inside g c = subst (λ n. HaveNonePast n c.args.block.first c.args.base.now) c.requires.rows c.requires.inside

pub pass-requires-clause-none : goal.pass-requires-clause-none
pass-requires-clause-none g c = zeros_front (length c.args.base.now) 128

pub put_words-requires-clause-within : goal.put_words-requires-clause-within
put_words-requires-clause-within g c =
    within_rows (rows_that_pass (database_of c.args.store.now) c.args.block.table c.args.pred.now) (length c.args.into.now) c.args.block.first c.args.base.now c.pass.new.done
    (subst (λ n. HaveNonePast n c.args.block.first c.args.base.now) (let e = c.requires.set in omega arith) c.requires.inside) c.pass.ensures.fits c.pass.ensures.bits

pub returns-clause-behind : goal.returns-clause-behind
returns-clause-behind g c row from = c.put_words.ensures.behind row (let e = c.pass.ensures.bits.long in omega arith)

pub returns-clause-put : goal.returns-clause-put
returns-clause-put g c row from to =
    rows_told (rows_that_pass (database_of c.args.store.now) c.args.block.table c.args.pred.now) c.args.base.now c.pass.new.done c.args.block.first c.put_words.new.set
    c.pass.ensures.bits c.put_words.ensures.put row from to
