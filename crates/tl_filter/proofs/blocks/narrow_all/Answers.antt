use Rattle.std.proofs.Common.{length, refl, arith}
use Rattle.tl_types.specs.History.{database_of, rows_of}
use Rattle.tl_filter.proofs.SelectLemmas.{narrowed_none, narrowed_more, narrowed_all, steps_more}
use Rattle.tl_filter.proofs.blocks.narrow_all.Goals as goal

pub loop-test-init : goal.loop-test-init
loop-test-init g c = record {
  bits = narrowed_none (rows_of (database_of c.args.store.now) c.args.block.table) _ c.args.block.first c.args.words.now refl c.requires.inside;
  steps = omega arith;
}

pub loop-test-preserved : goal.loop-test-preserved
loop-test-preserved g c = record {
  bits = narrowed_more (rows_of (database_of c.args.store.now) c.args.block.table) c.args.tests.now _ _ c.ready_test.result c.args.block.first c.args.words.now c.loop-test.words c.narrow.new.words
      c.loop-test-test.true c.test-item.is c.ready_test.ensures c.narrow.ensures.bits c.loop-test.invariant.bits;
  steps = steps_more c.args.steps.now c.loop-test.steps c.narrow.new.steps c.loop-test.test-index (length c.args.words.now) (length c.loop-test.words)
      c.loop-test.invariant.steps c.narrow.ensures.steps c.loop-test.invariant.bits.long;
}

pub returns-clause-bits : goal.returns-clause-bits
returns-clause-bits g c =
    narrowed_all (rows_of (database_of c.args.store.now) c.args.block.table) c.args.tests.now c.loop-test.test-index c.args.block.first c.args.words.now c.loop-test.words
    c.loop-test-test.false c.loop-test.invariant.bits
