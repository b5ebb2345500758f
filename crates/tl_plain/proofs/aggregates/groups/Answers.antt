use Rattle.std.proofs.Common.{sym, ap, subst, ◌∙◌, map, ◌++◌}
use Rattle.std.specs.Borrow.{Bor}
use Rattle.tl_types.specs.declared.cells.Cell.{Cell}
use Rattle.tl_query.specs.Passing.{passes}
use Rattle.tl_query.specs.Aggregates.{has_value, group_runs}
use Rattle.tl_query.specs.Answers.{run_fields}
use Rattle.tl_plain.specs.Choosing.{lent, there_at}
use Rattle.tl_plain.specs.Grouping.{runs_of_group}
use Rattle.tl_plain.specs.Keyed.{AreByKey}
use Rattle.tl_plain.proofs.CollectLemmas.{group_more, few_of_group}
use Rattle.tl_plain.proofs.aggregates.groups.Goals as goal

pub loop-value-preserved : goal.loop-value-preserved
loop-value-preserved c =
    let value = c.in-Some.value in
    let are = subst (AreByKey c.args.by c.args.rows.now) (sym c.as_slice.ensures.value) c.in_ok-by_key.ensures in
    let group = ap lent c.as_slice-in-loop-value.ensures.value ∙ c.in_ok-group.ensures c.args.by c.args.rows.now are in
    let step = c.in_ok-add_group.ensures ∙ ap (λ rs. c.loop-value.answer.items ++ map run_fields (group_runs c.args.plan.kind c.args.plan.column c.args.span (there_at c.args.span rs) value.now)) group in
    group_more (λ (v : Bor Cell). v.now) run_fields (runs_of_group c.args.plan.kind c.args.plan.column c.args.pred.now c.args.span c.args.rows.now c.args.by) c.loop-value.yielded value c.loop-value.answer.items c.add_group.new.answer.items step c.loop-value.invariant

pub add_group-requires : goal.add_group-requires
add_group-requires c =
    let are = subst (AreByKey c.args.by c.args.rows.now) (sym c.as_slice.ensures.value) c.in_ok-by_key.ensures in
    let group = ap lent c.as_slice-in-loop-value.ensures.value ∙ c.in_ok-group.ensures c.args.by c.args.rows.now are in
    few_of_group (passes c.args.pred.now) (has_value c.args.by c.in-Some.value.now) c.as_slice-in-loop-value.result.now c.args.rows.now 4294967296 group c.requires
