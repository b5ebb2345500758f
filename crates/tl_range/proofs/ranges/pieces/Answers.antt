use Rattle.std.proofs.Common.{◌≡◌, ◌-◌, length, sym, ap, ◌∙◌, subst, refl}
use Rattle.std.specs.Prelude.{slice_index_or, min}
use Rattle.tl_ckpt.specs.Marks.{marks_for}
use Rattle.tl_range.specs.Dividing.{Ascend, AreDivided}
use Rattle.tl_range.proofs.DivideLemmas.{bounds_ascend, divided}
use Rattle.tl_range.proofs.ranges.pieces.Goals as goal

pub divide-requires-clause-ascend : goal.divide-requires-clause-ascend
divide-requires-clause-ascend c =
    let marks = marks_for c.args.marks.now c.args.table in
    subst Ascend (sym (c.deref.ensures.value ∙ c.in_ok-bounds.ensures)) (bounds_ascend c.args.from c.args.to marks c.requires.range)

pub returns : goal.returns
returns c =
    let marks = marks_for c.args.marks.now c.args.table in
    let bounds_is = c.deref.ensures.value ∙ c.in_ok-bounds.ensures in
    let many : c.min-count.result ≡ min c.args.workers (length c.deref.result.now - 1) = c.min-count.ensures ∙ ap (min c.args.workers) (ap (λ n. n - 1) (c.len.ensures ∙ sym c.deref.ensures.len)) in
    subst (AreDivided marks c.args.from c.args.to c.args.workers) (sym c.from_vec.ensures)
    (divided marks c.args.from c.args.to c.args.workers c.deref.result.now c.in_ok-pieces.pieces.items c.min-count.result (slice_index_or c.deref.result.now 0 0) (slice_index_or c.deref.result.now (length c.deref.result.now - 1) 0) bounds_is many c.in_ok-pieces.ensures.number c.in_ok-pieces.ensures.cover refl refl c.in_ok-pieces.ensures.begin)
