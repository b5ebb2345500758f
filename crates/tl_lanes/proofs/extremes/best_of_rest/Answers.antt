use Rattle.std.proofs.Common.{◌≡◌, pos, get_or, take, sym, ap, ◌∙◌, subst, refl, arith, w64, of_z, to_z}
use Rattle.std.specs.Prelude.{ℤ, All, Contains, if◌then◌else◌, ◌&&◌}
use Rattle.std.proofs.Math.Facts.{to_z-of_z}
use Rattle.std.proofs.lemmas.List.{take_all}
use Rattle.tl_lanes.specs.Masks.{IsUpTo, picked, bit_of}
use Rattle.tl_lanes.specs.Lanes.{comes_first}
use Rattle.tl_lanes.proofs.PickedLemmas.{picked_more}
use Rattle.tl_lanes.proofs.LaneSteps.{step_among, one_first, picked_there}
use Rattle.tl_lanes.proofs.extremes.best_of_rest.Goals as goal

pub loop-j-preserved : goal.loop-j-preserved
loop-j-preserved c =
    let least = c.args.least in
    let mask = c.args.mask.now in
    let values = c.args.values.now in
    let j = c.loop-j.j in
    let best : ℤ = to_z w64 c.loop-j.best-bits in
    let value : ℤ = get_or values j (pos 0) in
    let set = bit_of mask j in
    let read : to_z w64 (of_z w64 c.number.result) ≡ value =
    ap (λ v. to_z w64 (of_z w64 v)) c.number.ensures.value ∙ to_z-of_z c.number.ensures.fits in
    let first : c.comes_before-first.result ≡ comes_first least value best = c.comes_before-first.ensures ∙ ap (λ v. comes_first least v best) read in
    let taken : to_z w64 (of_z w64 c.chosen-best.result) ≡ (if set && comes_first least value best then value else best) =
    to_z-of_z c.chosen-best.ensures.fits ∙ c.chosen-best.ensures.value ∙ ap (λ b. if c.is_set.result && b then value else best) first
    ∙ ap (λ b. if b && comes_first least value best then value else best) c.is_set.ensures in record {
      among = step_among (Contains (picked mask values)) set (comes_first least value best) value best (to_z w64 (of_z w64 c.chosen-best.result)) taken c.loop-j.invariant.among
          (λ here. picked_there mask values j (omega arith) here);
      first = subst (All (IsUpTo least (to_z w64 (of_z w64 c.chosen-best.result)))) (sym (picked_more mask values j (pos 0) (omega arith)))
          (one_first least set (comes_first least value best) (picked mask (take j values)) best value (to_z w64 (of_z w64 c.chosen-best.result)) refl taken c.loop-j.invariant.first);
    }

pub returns : goal.returns
returns c = record {
  among = c.loop-j.invariant.among;
  first = subst (λ vs. All (IsUpTo c.args.least (to_z w64 c.loop-j.best-bits)) (picked c.args.mask.now vs)) (take_all c.loop-j.j c.args.values.now (omega arith)) c.loop-j.invariant.first;
}
