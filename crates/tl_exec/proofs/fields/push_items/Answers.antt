use Rattle.std.proofs.Common.{◌∙◌, arith}
use Rattle.tl_query.specs.Fields.{item_field}
use Rattle.tl_exec.proofs.ShownLemmas.{item_behind}
use Rattle.tl_exec.proofs.fields.push_items.Goals as goal

pub loop-item-preserved : goal.loop-item-preserved
loop-item-preserved g c = record {
  rows = c.in_ok-push.ensures.rows ∙ c.loop-item.invariant.rows;
  value = λ r h. item_behind (item_field r) c.args.rows.now.row c.args.items.now c.loop-item.item-index _ c.loop-item.rows.row c.push.new.self.row _
      c.loop-item-test.true (c.loop-item.invariant.value r h) c.in_ok-push.ensures.row (c.item_field.ensures.value r h);
  steps = let e = c.item_field.ensures.steps in let f = c.loop-item.invariant.steps in omega arith;
}
