use Rattle.std.proofs.Common.{◌≡◌, pos, get_or, take, true, sym, ap, ◌∙◌, subst, refl, arith, w64, of_z, to_z}
use Rattle.std.specs.Prelude.{ℤ, All, Contains, if◌then◌else◌, ◌&&◌}
use Rattle.std.proofs.Math.Facts.{to_z-of_z}
use Rattle.std.proofs.lemmas.List.{take_more, take_all}
use Rattle.tl_lanes.specs.Masks.{IsUpTo}
use Rattle.tl_lanes.specs.Lanes.{comes_first}
use Rattle.tl_lanes.proofs.LaneSteps.{step_among, one_first, item_there}
use Rattle.tl_lanes.proofs.extremes.best_lane.Goals as goal

pub loop-lane-preserved : goal.loop-lane-preserved
loop-lane-preserved c =
    let least = c.args.least in
    let lanes = c.args.lanes.now in
    let i = c.loop-lane.lane-index in
    let best : ℤ = to_z w64 c.loop-lane.best-bits in
    let value : ℤ = get_or lanes i (pos 0) in
    let read : to_z w64 (of_z w64 c.number.result) ≡ value =
    ap (λ v. to_z w64 (of_z w64 v)) c.number.ensures.value ∙ to_z-of_z c.number.ensures.fits in
    let first : c.comes_before.result ≡ comes_first least value best = c.comes_before.ensures ∙ ap (λ v. comes_first least v best) read in
    let taken : to_z w64 (of_z w64 c.chosen-best.result) ≡ (if true && comes_first least value best then value else best) =
    to_z-of_z c.chosen-best.ensures.fits ∙ c.chosen-best.ensures.value ∙ ap (λ b. if b then value else best) first in record {
      among = step_among (Contains lanes) true (comes_first least value best) value best (to_z w64 (of_z w64 c.chosen-best.result)) taken c.loop-lane.invariant.among
          (λ _. item_there lanes i (omega arith));
      first = subst (All (IsUpTo least (to_z w64 (of_z w64 c.chosen-best.result)))) (sym (take_more lanes i (pos 0) (omega arith)))
          (one_first least true (comes_first least value best) (take i lanes) best value (to_z w64 (of_z w64 c.chosen-best.result)) refl taken c.loop-lane.invariant.first);
    }

pub returns-clause-best : goal.returns-clause-best
returns-clause-best c = record {
  among = c.loop-lane.invariant.among;
  first = subst (All (IsUpTo c.args.least (to_z w64 c.loop-lane.best-bits))) (take_all c.loop-lane.lane-index c.args.lanes.now (omega arith)) c.loop-lane.invariant.first;
}
