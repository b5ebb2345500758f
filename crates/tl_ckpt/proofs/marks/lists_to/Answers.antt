use Rattle.std.proofs.Common.{◌∙◌, arith}
use Rattle.tl_ckpt.proofs.MarkLemmas.{one_none_more, same_count}
use Rattle.tl_ckpt.proofs.marks.lists_to.Goals as goal

pub loop-preserved : goal.loop-preserved
loop-preserved c = record {
  lists = c.in_ok-push.ensures.items ∙ one_none_more c.args.lists.now c.loop.more.items c.in_ok-new.field-0 c.loop.counter (c.loop.auto.counter) c.loop.invariant.lists (c.in_ok-new.ensures ∙ c.none.ensures);
  none = λ less. (let a = c.loop.auto.counter in let t = c.loop-test.true in omega (arith, less, a, t));
}

pub returns : goal.returns
returns c =
    c.loop.invariant.lists
    ∙ same_count c.args.lists.now c.loop.counter c.args.count c.loop-test.false c.loop.auto.counter-end c.loop.invariant.none
