use Rattle.std.proofs.Common.{◌≡◌, ◌∙◌, ◌++◌, ◌∷◌, [], length, take, drop, sym, ap, subst}
use Rattle.tl_ckpt.specs.Marks.{ArePartedAt}
use Rattle.tl_ckpt.proofs.MarkLemmas.{put_last, put_between, parted_by}
use Rattle.tl_ckpt.proofs.marks.put_mark.Goals as goal

pub returns-then-place-len : goal.returns-then-place-len
returns-then-place-len c =
    let parted = parted_by c.args.list.now c.version.result c.args.mark c.marks_to-place.result c.version.ensures c.marks_to-place.ensures in
    let all : c.marks_to-place.result ≡ length c.args.list.now = c.if-place-len.true ∙ c.len.ensures in
    c.in_ok-marks.ensures ∙ ap (λ m. c.args.list.now ++ m ∷ []) c.in_ok-mark.ensures
    ∙ sym (put_last c.args.list.now c.args.mark (subst (ArePartedAt c.args.list.now c.args.mark.version) all parted))

pub returns : goal.returns
returns c =
    let parted = parted_by c.args.list.now c.version.result c.args.mark c.marks_to-place.result c.version.ensures c.marks_to-place.ensures in
    c.in_ok-marks-2.ensures
    ∙ ap (λ m. take c.marks_to-place.result c.args.list.now ++ m ∷ drop c.marks_to-place.result c.args.list.now) c.in_ok-mark.ensures
    ∙ sym (put_between c.args.list.now c.args.mark c.marks_to-place.result parted)
