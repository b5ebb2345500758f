use Rattle.std.proofs.Common.{◌∙◌, sym, ap, subst}
use Rattle.tl_ckpt.specs.Marks.{EachClimbs, marks_for}
use Rattle.tl_ckpt.proofs.MarkLemmas.{none_for, list_for, climbs_for}
use Rattle.tl_ckpt.proofs.marks.Marks.list_of.Goals as goal

pub returns-in-None-clause-none : goal.returns-in-None-clause-none
returns-in-None-clause-none c =
    let same = c.deref.ensures.value ∙ c.self.view_is in
    ap (λ lists. marks_for lists c.args.table) (sym same) ∙ none_for c.deref.result.now c.args.table (c.in-None.ensures.lookup).3

pub returns-in-Some-clause-found : goal.returns-in-Some-clause-found
returns-in-Some-clause-found c =
    let same = c.deref.ensures.value ∙ c.self.view_is in
    let h = c.in-Some.ensures.lookup in
    let at = list_for c.deref.result.now c.args.table c.in-Some.list.now (h.3).0 h.1 in
    let is = at ∙ sym c.get-in-Some.ensures in (
      ap (λ lists. marks_for lists c.args.table) (sym same) ∙ is,
      climbs_for c.deref.result.now c.args.table c.get-in-Some.result.now (subst EachClimbs (sym c.deref.ensures.value) c.self.invariant) is,
    )
