use Rattle.std.proofs.Common.{◌∙◌, sym, ap, subst}
use Rattle.std.specs.Prelude.{slice_set}
use Rattle.tl_ckpt.specs.Marks.{EachClimbs, with_mark}
use Rattle.tl_ckpt.proofs.MarkLemmas.{at_climbs, with_made, each_climbs}
use Rattle.tl_ckpt.proofs.marks.Marks.with.Goals as goal

pub put_mark-requires : goal.put_mark-requires
put_mark-requires c =
    at_climbs c.deref.result.now c.in_ok-lists.lists.items c.table-table.result c.get.result.now
    (subst EachClimbs (sym c.deref.ensures.value) c.self.invariant) c.in_ok-lists.ensures
    (rw c.get.ensures c.index.ensures)

pub of_lists-requires : goal.of_lists-requires
of_lists-requires c =
    let up = subst EachClimbs (sym c.deref.ensures.value) c.self.invariant in
    each_climbs c.args.checkpoint c.deref.result.now (slice_set c.in_ok-lists.lists.items c.table-table.result c.in_ok-lists-2.field-0) up
    (with_made c.args.checkpoint c.deref.result.now c.in_ok-lists.lists.items c.table-table.result c.get.result.now c.in_ok-list.list c.in_ok-lists-2.field-0
    c.table-table.ensures c.in_ok-lists.ensures (rw c.get.ensures c.index.ensures) c.in_ok-list.ensures c.in_ok-lists-2.ensures)

pub returns : goal.returns
returns c =
    c.of_lists.ensures
    ∙ with_made c.args.checkpoint c.deref.result.now c.in_ok-lists.lists.items c.table-table.result c.get.result.now c.in_ok-list.list c.in_ok-lists-2.field-0
    c.table-table.ensures c.in_ok-lists.ensures (rw c.get.ensures c.index.ensures) c.in_ok-list.ensures c.in_ok-lists-2.ensures
    ∙ ap (with_mark c.args.checkpoint) (c.deref.ensures.value ∙ c.self.view_is)
