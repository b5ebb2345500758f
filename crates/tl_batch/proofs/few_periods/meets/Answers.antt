use Rattle.std.proofs.Common.{◌∙◌, rules, arith, w64, FitsSigned, of_z, to_z}
use Rattle.std.proofs.lemmas.Int.{ints, to_z-of_z}
use Rattle.tl_batch.proofs.OverlapLemmas.{meets_one, meets_not}
use Rattle.tl_batch.proofs.few_periods.meets.Goals as goal

pub returns-then-from-end : goal.returns-then-from-end
returns-then-from-end c = λ lines full same.
    let f : FitsSigned w64 c.from.result = search rules in
    let g : FitsSigned w64 c.to.result = search rules in
    let a = to_z-of_z w64 c.from.result f in
    let b = to_z-of_z w64 c.args.end c.ranges.end in
    meets_one lines c.args.period c.from.result c.args.end c.args.start (to_z w64 (of_z w64 c.args.start)) (to_z w64 (of_z w64 c.to.result)) c.from.ensures.value (to_z-of_z w64 c.args.start c.ranges.start) (to_z-of_z w64 c.to.result g ∙ c.to.ensures.value)
    (let h = c.if-from-end.true in let k = a in let m = b in omega (arith, ints)) c.from.ensures.some c.requires full same

pub returns : goal.returns
returns c = λ lines full same.
    let f : FitsSigned w64 c.from.result = search rules in
    let a = to_z-of_z w64 c.from.result f in
    let b = to_z-of_z w64 c.args.end c.ranges.end in
    meets_not lines c.args.period c.from.result c.args.end c.args.start c.from.ensures.value (let h = c.if-from-end.false in let k = a in let m = b in omega (arith, ints)) c.from.ensures.some c.requires full same
