use Rattle.std.proofs.Common.{◌<◌, ◌≤◌, get_or, length, subst, refl, sym, ap, ◌∙◌, arith}
use Rattle.std.proofs.lemmas.Option.{slice_get_read}
use Rattle.tl_types.specs.Plain as plain
use Rattle.tl_batch.proofs.OverlapFaults.{earlier_more, fault_found, full_more, overlaps_are}
use Rattle.tl_batch.proofs.syncing.first_overlap.Goals as goal

pub returns-then-overlaps-clause-fault : goal.returns-then-overlaps-clause-fault
returns-then-overlaps-clause-fault c = λ schema same valid.
    fault_found schema c.args.place c.loop-i.earlier c.args.lines.now c.loop-i.i c.index-lines-i.result c.loop-i.invariant.held same valid (omega arith) c.index-lines-i.is
    (sym (overlaps_are schema c.args.place c.loop-i.earlier c.args.lines.now c.loop-i.i c.index-lines-i.result c.index-cells-place.result c.period-period.result c.cover-cover.result c.affects-overlaps.result c.loop-i.invariant.held same valid (slice_get_read c.index-lines-i.result.cells (length c.index-lines-i.result.cells) c.args.place c.index-cells-place.result refl (subst (λ (l : plain.Opened). c.args.place < length l.cells) (sym c.index-lines-i.is) (c.requires.keyed c.loop-i.i c.index-lines-i.result (omega arith))) (c.index-cells-place.is ∙ ap (λ xs. get_or xs c.args.place c.index-cells-place.result) c.cells.ensures.value)) c.period-period.ensures c.cover-cover.ensures c.affects-overlaps.ensures) ∙ c.if-overlaps.true)

pub loop-i-preserved : goal.loop-i-preserved
loop-i-preserved c = record {
  held = earlier_more c.args.place c.loop-i.earlier c.add.new.self c.args.lines.now c.loop-i.i c.index-lines-i.result c.index-cells-place.result c.period-period.result c.loop-i.invariant.held (omega arith) c.index-lines-i.is (slice_get_read c.index-lines-i.result.cells (length c.index-lines-i.result.cells) c.args.place c.index-cells-place.result refl (subst (λ (l : plain.Opened). c.args.place < length l.cells) (sym c.index-lines-i.is) (c.requires.keyed c.loop-i.i c.index-lines-i.result (omega arith))) (c.index-cells-place.is ∙ ap (λ xs. get_or xs c.args.place c.index-cells-place.result) c.cells.ensures.value)) c.period-period.ensures c.in_ok-add.ensures.held c.in_ok-add.ensures.full
      (λ schema same valid. sym (overlaps_are schema c.args.place c.loop-i.earlier c.args.lines.now c.loop-i.i c.index-lines-i.result c.index-cells-place.result c.period-period.result c.cover-cover.result c.affects-overlaps.result c.loop-i.invariant.held same valid (slice_get_read c.index-lines-i.result.cells (length c.index-lines-i.result.cells) c.args.place c.index-cells-place.result refl (subst (λ (l : plain.Opened). c.args.place < length l.cells) (sym c.index-lines-i.is) (c.requires.keyed c.loop-i.i c.index-lines-i.result (omega arith))) (c.index-cells-place.is ∙ ap (λ xs. get_or xs c.args.place c.index-cells-place.result) c.cells.ensures.value)) c.period-period.ensures c.cover-cover.ensures c.affects-overlaps.ensures) ∙ c.if-overlaps.false);
  full = full_more c.args.lines.now c.loop-i.i c.index-lines-i.result c.period-period.result (omega arith) c.index-lines-i.is c.period-period.ensures c.in_ok-add.ensures.full c.loop-i.invariant.full;
}
