use Rattle.std.proofs.Common.{ap, ◌∙◌, rules, w64, SFits}
use mir.Val.{to_z, of_z}
use Rattle.std.proofs.lemmas.Int.{to_z-of_z}
use Rattle.tl_query.specs.Aggregates.{aggregate_of, span_start}
use Rattle.tl_plain.specs.Choosing.{lent, there_at}
use Rattle.tl_plain.proofs.TimeLemmas.{there_same}
use Rattle.tl_types.proofs.RunLemmas.{none_made, more_made}
use Rattle.tl_plain.proofs.stretches.runs_in.Goals as goal

pub loop-at-init : goal.loop-at-init
loop-at-init c =
    let fits : SFits w64 c.span_start-at.result = search rules in
    none_made _ _ _ _ _ (to_z-of_z w64 c.span_start-at.result fits ∙ c.span_start-at.ensures) c.new-runs.ensures.items

pub loop-at-preserved : goal.loop-at-preserved
loop-at-preserved c =
    let at = to_z w64 c.loop-at.at-bits in
    let next = c.next_change-next.result in
    let fits : SFits w64 c.next_change-next.result = search rules in
    let same = to_z-of_z w64 c.next_change-next.result fits in
    let quiet = c.next_change-next.ensures in
    let step = c.in_ok-add_stretch.ensures in
    rw same (more_made (λ moment. aggregate_of c.args.plan.kind c.args.plan.column (there_at c.args.span (lent c.args.rows.now) moment)) (span_start c.args.span) (to_z w64 (of_z w64 c.span_end-end.result)) at next c.loop-at.runs.items c.add_stretch.new.runs.items c.in_ok-value.value c.loop-at.invariant quiet.after quiet.within (λ moment after before. ap (aggregate_of c.args.plan.kind c.args.plan.column) (there_same c.args.span (lent c.args.rows.now) at next quiet.quiet moment after before)) c.in_ok-value.ensures (rw same at step))
