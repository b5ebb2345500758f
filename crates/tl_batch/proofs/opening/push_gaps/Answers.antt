use Rattle.std.proofs.Common.{[], refl, rules, arith, pos, w64, FitsSigned, of_z, to_z, ◌∙◌}
use Rattle.std.proofs.lemmas.Int.{ints, to_z-of_z}
use Rattle.tl_batch.proofs.FewPeriodsLemmas.{gap_goes, gap_ends}
use Rattle.tl_batch.proofs.OpeningLemmas.{piece_goes, piece_ends}
use Rattle.tl_batch.proofs.opening.push_gaps.Goals as goal

pub loop-stretch-preserved : goal.loop-stretch-preserved
loop-stretch-preserved g c = λ r p there is.
    let h : FitsSigned w64 c.to-to.result = search rules in
    let t = to_z-of_z w64 c.to-to.result h in
    let j : FitsSigned w64 c.start_of-in-loop-stretch.result = search rules in
    let k : FitsSigned w64 c.end_of-start.result = search rules in
    piece_goes r.cells _ _ _ c.loop-stretch.opens.items c.push_piece-in-loop-stretch.new.opens.items _ (c.in_ok-push_piece-2.ensures r there)
    (gap_goes (to_z w64 c.loop-stretch.start-bits) (to_z w64 (of_z w64 c.to-to.result)) c.end_of.result c.start_of.result (to_z w64 (of_z w64 c.start_of-in-loop-stretch.result)) (to_z w64 (of_z w64 c.end_of-start.result)) c.loop-stretch.stretch-index c.args.stretches.now (pos 0, pos 0) [] _ _
    c.loop-stretch-test.true c.end_of.ensures c.start_of.ensures (to_z-of_z w64 c.start_of-in-loop-stretch.result j ∙ c.start_of-in-loop-stretch.ensures) (to_z-of_z w64 c.end_of-start.result k ∙ c.end_of-start.ensures)
    (let f = c.if-end_of-start.false in omega (arith, ints)) (let f = c.if-start_of-to.false in let m = t in omega (arith, ints)) refl refl)
    (c.loop-stretch.invariant r p there is)

pub returns-clause-gaps : goal.returns-clause-gaps
returns-clause-gaps g c = λ r p there is.
    piece_ends r.cells _ _ c.loop-stretch.opens.items c.push_piece-2.new.opens.items _ (c.in_ok-push_piece-3.ensures r there)
    (gap_ends (to_z w64 c.loop-stretch.start-bits) (to_z w64 (of_z w64 c.to-to.result)) c.loop-stretch.stretch-index c.args.stretches.now [] _ _ c.loop-stretch-test.false refl refl)
    (c.loop-stretch.invariant r p there is)
