use Rattle.std.proofs.Common.{rules, arith, pos, w64, FitsSigned, of_z, to_z, ◌∙◌}
use Rattle.std.proofs.lemmas.Int.{ints, to_z-of_z}
use Rattle.tl_batch.specs.Covers.{gaps}
use Rattle.tl_batch.proofs.FewPeriodsLemmas.{gap_stops, gap_goes, gap_ends}
use Rattle.tl_batch.proofs.few_periods.gaps_between.Goals as goal

pub returns-then-start_of-to : goal.returns-then-start_of-to
returns-then-start_of-to c =
    let t = to_z-of_z w64 c.args.to c.ranges.to in
    let f = to_z-of_z w64 c.args.from c.ranges.from in
    gap_stops (to_z w64 c.loop-stretch.start-bits) c.args.to c.end_of.result c.start_of.result c.loop-stretch.stretch-index c.args.stretches.now (pos 0, pos 0) c.loop-stretch.left.items c.push_part.new.parts.items (gaps c.args.from c.args.to c.args.stretches.now)
    c.loop-stretch-test.true c.end_of.ensures c.start_of.ensures (let h = c.if-end_of-start.false in omega (arith, ints)) (let h = c.if-start_of-to.true in omega (arith, ints)) (rw t at c.in_ok-push_part.ensures) (rw (t, f) at c.loop-stretch.invariant)

pub returns : goal.returns
returns c =
    let t = to_z-of_z w64 c.args.to c.ranges.to in
    let f = to_z-of_z w64 c.args.from c.ranges.from in
    gap_ends (to_z w64 c.loop-stretch.start-bits) c.args.to c.loop-stretch.stretch-index c.args.stretches.now c.loop-stretch.left.items c.push_part-2.new.parts.items (gaps c.args.from c.args.to c.args.stretches.now)
    c.loop-stretch-test.false (rw t at c.in_ok-push_part-3.ensures) (rw (t, f) at c.loop-stretch.invariant)

pub loop-stretch-preserved : goal.loop-stretch-preserved
loop-stretch-preserved c =
    let t = to_z-of_z w64 c.args.to c.ranges.to in
    let g : FitsSigned w64 c.start_of-in-loop-stretch.result = search rules in
    let k : FitsSigned w64 c.end_of-start.result = search rules in
    gap_goes (to_z w64 c.loop-stretch.start-bits) (to_z w64 (of_z w64 c.args.to)) c.end_of.result c.start_of.result (to_z w64 (of_z w64 c.start_of-in-loop-stretch.result)) (to_z w64 (of_z w64 c.end_of-start.result)) c.loop-stretch.stretch-index c.args.stretches.now (pos 0, pos 0) c.loop-stretch.left.items c.push_part-in-loop-stretch.new.parts.items (gaps (to_z w64 (of_z w64 c.args.from)) (to_z w64 (of_z w64 c.args.to)) c.args.stretches.now)
    c.loop-stretch-test.true c.end_of.ensures c.start_of.ensures (to_z-of_z w64 c.start_of-in-loop-stretch.result g ∙ c.start_of-in-loop-stretch.ensures) (to_z-of_z w64 c.end_of-start.result k ∙ c.end_of-start.ensures)
    (let h = c.if-end_of-start.false in omega (arith, ints)) (let h = c.if-start_of-to.false in let m = t in omega (arith, ints)) c.in_ok-push_part-2.ensures c.loop-stretch.invariant
