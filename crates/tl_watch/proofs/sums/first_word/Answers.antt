use Rattle.std.proofs.Common.{sym, arith}
use Rattle.std.proofs.lemmas.List.{take_all, length-take}
use Rattle.tl_watch.proofs.sums.first_word.Goals as goal

pub returns-then-values-le64 : goal.returns-then-values-le64
returns-then-values-le64 c = let l = c.if-values-le64.true in sym (take_all 64 c.args.values.now (omega arith))

pub slice_bounds-result-end : goal.slice_bounds-result-end
slice_bounds-result-end c =
    let l = c.if-values-le64.false in
    let e = length-take 64 c.args.values.now in
    omega arith
