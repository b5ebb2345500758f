use Rattle.std.proofs.Common.{rules, w64, SFits}
use mir.Val.{to_z, of_z}
use Rattle.std.proofs.lemmas.Int.{to_z-of_z}
use Rattle.tl_plain.specs.Choosing.{lent, there_at}
use Rattle.tl_plain.proofs.CollectLemmas.{run_kept, run_left}
use Rattle.tl_plain.proofs.aggregates.add_runs.Goals as goal

pub loop-run-preserved-in_ok-push : goal.loop-run-preserved-in_ok-push
loop-run-preserved-in_ok-push c =
    let run = c.in-Some.run' in
    let fits : SFits w64 c.in-Some.run'.from = search rules in
    run_kept (there_at c.args.span (lent c.args.rows.now)) c.args.value.now c.loop-run.yielded run c.in_ok-in_group.field-0 c.in_ok-run_fields.field-0 (to_z w64 (of_z w64 c.in-Some.run'.from)) c.has_row.result c.args.answer.now.items c.loop-run.answer.items c.push.new.self.items (to_z-of_z w64 c.in-Some.run'.from fits) c.has_row.ensures c.if-has_row.true c.in_ok-in_group.ensures c.in_ok-run_fields.ensures c.in_ok-push.ensures.items c.loop-run.invariant

pub loop-run-preserved-else-has_row : goal.loop-run-preserved-else-has_row
loop-run-preserved-else-has_row c =
    let fits : SFits w64 c.in-Some.run'.from = search rules in
    run_left (there_at c.args.span (lent c.args.rows.now)) c.args.value.now c.loop-run.yielded c.in-Some.run' (to_z w64 (of_z w64 c.in-Some.run'.from)) c.has_row.result c.args.answer.now.items c.loop-run.answer.items (to_z-of_z w64 c.in-Some.run'.from fits) c.has_row.ensures c.if-has_row.false c.loop-run.invariant

pub loop-run-preserved-else-has_row-2 : goal.loop-run-preserved-else-has_row-2
loop-run-preserved-else-has_row-2 c =
    let fits : SFits w64 c.in-Some.run'.from = search rules in
    run_left (there_at c.args.span (lent c.args.rows.now)) c.args.value.now c.loop-run.yielded c.in-Some.run' (to_z w64 (of_z w64 c.in-Some.run'.from)) c.has_row.result c.args.answer.now.items c.loop-run.answer.items (to_z-of_z w64 c.in-Some.run'.from fits) c.has_row.ensures c.if-has_row.false c.loop-run.invariant

pub loop-run-preserved : goal.loop-run-preserved
loop-run-preserved c =
    let fits : SFits w64 c.in-Some.run'.from = search rules in
    run_left (there_at c.args.span (lent c.args.rows.now)) c.args.value.now c.loop-run.yielded c.in-Some.run' (to_z w64 (of_z w64 c.in-Some.run'.from)) c.has_row.result c.args.answer.now.items c.loop-run.answer.items (to_z-of_z w64 c.in-Some.run'.from fits) c.has_row.ensures c.if-has_row.false c.loop-run.invariant
