use Rattle.std.proofs.Common.{length, refl, arith, rules, ◌∙◌}
use Rattle.tl_types.specs.History.{database_of, rows_of}
use Rattle.tl_filter.proofs.SelectLemmas.{no_lists, list_told, list_steps}
use Rattle.tl_filter.proofs.blocks.pass_lists.Goals as goal

pub loop-tests-init : goal.loop-tests-init
loop-tests-init g c = record {
  long = search rules;
  bits = no_lists (rows_of (database_of c.args.store.now) c.args.block.table) c.args.block.first c.args.base.now c.args.done.now c.requires.long c.requires.none;
  steps = omega arith;
}

pub loop-tests-preserved : goal.loop-tests-preserved
loop-tests-preserved g c = record {
  long = c.pass_list.ensures.long ∙ c.loop-tests.invariant.long;
  bits = list_told (rows_of (database_of c.args.store.now) c.args.block.table) c.args.lists.now _ _ c.as_slice.result.now c.args.block.first
      c.args.base.now c.loop-tests.done c.pass_list.new.done
      c.loop-tests-test.true c.tests-item.is c.as_slice.ensures c.pass_list.ensures.bits c.loop-tests.invariant.bits;
  steps = list_steps c.args.lists.now c.loop-tests.tests-index c.tests-item.result c.as_slice.result.now c.args.steps.now c.loop-tests.steps c.pass_list.new.steps (length c.args.base.now)
      (length c.args.base.now) c.loop-tests-test.true c.tests-item.is c.as_slice.ensures c.loop-tests.invariant.steps c.pass_list.ensures.steps refl;
}
