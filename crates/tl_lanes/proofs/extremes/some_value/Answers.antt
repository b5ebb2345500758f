use Rattle.std.proofs.Common.{◌≡◌, ◌++◌, pos, false, get_or, take, sym, ap, ◌∙◌, subst, arith, w64, of_z, to_z}
use Rattle.std.specs.Prelude.{Contains}
use Rattle.std.proofs.Math.Facts.{to_z-of_z}
use Rattle.tl_lanes.specs.Masks.{picked}
use Rattle.tl_lanes.proofs.PickedLemmas.{picked_more, one_if}
use Rattle.tl_lanes.proofs.LaneSteps.{picked_there}
use Rattle.tl_lanes.proofs.extremes.some_value.Goals as goal

pub returns-then-is_set-clause-some : goal.returns-then-is_set-clause-some
returns-then-is_set-clause-some c =
    let values = c.args.values.now in
    let j = c.loop-j.j in
    let read : to_z w64 (of_z w64 c.number.result) ≡ get_or values j (pos 0) =
    ap (λ v. to_z w64 (of_z w64 v)) c.number.ensures.value ∙ to_z-of_z c.number.ensures.fits in
    subst (Contains (picked c.args.mask.now values)) (sym read)
    (picked_there c.args.mask.now values j (omega arith) (sym c.is_set.ensures ∙ c.if-is_set.true))

pub loop-j-preserved : goal.loop-j-preserved
loop-j-preserved c =
    let mask = c.args.mask.now in
    let values = c.args.values.now in
    let j = c.loop-j.j in
    picked_more mask values j (pos 0) (omega arith)
    ∙ ap (λ b. picked mask (take j values) ++ one_if b (get_or values j (pos 0))) (sym c.is_set.ensures ∙ c.if-is_set.false)
    ∙ ap (λ vs. vs ++ one_if false (get_or values j (pos 0))) c.loop-j.invariant
