use Rattle.std.proofs.Common.{◌≡◌, ◌∙◌, ◌-◌, sym, ap, arith, refl, length}
use Rattle.std.specs.Prelude.{slice_get, Some}
use Rattle.std.proofs.lemmas.Option.{slice_get_read}
use Rattle.tl_ckpt.proofs.MarkLemmas.{nearest_none, nearest_last}
use Rattle.tl_ckpt.proofs.marks.last_to.Goals as goal

pub returns-then-count-eq0-clause-none : goal.returns-then-count-eq0-clause-none
returns-then-count-eq0-clause-none c = nearest_none c.args.list.now c.args.version c.marks_to-count.result c.marks_to-count.ensures c.if-count-eq0.true

pub returns-else-count-eq0-clause-found : goal.returns-else-count-eq0-clause-found
returns-else-count-eq0-clause-found c =
    let n = c.marks_to-count.result in
    let some = c.if-count-eq0.false in
    let few = c.marks_to-count.ensures.within in
    let here : slice_get c.args.list.now (n - 1) ≡ Some c.at.result.now = slice_get_read c.args.list.now (length c.args.list.now) (n - 1) c.at.result.now refl (omega arith) c.at.ensures in
    nearest_last c.args.list.now c.args.version n (n - 1) c.at.result.now c.marks_to-count.ensures (omega arith) here ∙ ap Some (sym c.get.ensures)
