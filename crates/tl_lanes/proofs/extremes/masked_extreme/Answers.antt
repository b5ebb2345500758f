use Rattle.std.proofs.Common.{◌*◌, ◌/◌, length, take, subst, sym, ◌∙◌}
use Rattle.std.specs.Prelude.{All, Contains}
use Rattle.std.proofs.Math.Facts.{to_z-of_z}
use Rattle.tl_lanes.specs.Masks.{picked, IsExtreme, IsUpTo}
use Rattle.tl_lanes.proofs.LaneSteps.{again, lane_among, lane_first}
use Rattle.tl_lanes.proofs.extremes.masked_extreme.Goals as goal

pub best_of_rest-requires-clause-among : goal.best_of_rest-requires-clause-among
best_of_rest-requires-clause-among c =
    let least = c.args.least in
    let mask = c.args.mask.now in
    let values = c.args.values.now in
    let lanes = c.best_lanes-lanes.result in
    let best = c.best_lane-best.result in
    let extreme = subst (λ vs. IsExtreme least vs best) (c.as_slice.ensures ∙ again lanes c.best_lanes-lanes.ensures.fit) c.best_lane-best.ensures.best in
    subst (Contains (picked mask values)) (sym (to_z-of_z c.best_lane-best.ensures.fits))
    (lane_among least (picked mask values) (picked mask (take (64 * (length values / 64)) values)) lanes best c.best_lanes-lanes.ensures extreme)

pub best_of_rest-requires-clause-first : goal.best_of_rest-requires-clause-first
best_of_rest-requires-clause-first c =
    let least = c.args.least in
    let mask = c.args.mask.now in
    let values = c.args.values.now in
    let lanes = c.best_lanes-lanes.result in
    let best = c.best_lane-best.result in
    let extreme = subst (λ vs. IsExtreme least vs best) (c.as_slice.ensures ∙ again lanes c.best_lanes-lanes.ensures.fit) c.best_lane-best.ensures.best in
    subst (λ b. All (IsUpTo least b) (picked mask (take (64 * (length values / 64)) values))) (sym (to_z-of_z c.best_lane-best.ensures.fits))
    (lane_first least (picked mask values) (picked mask (take (64 * (length values / 64)) values)) lanes best c.best_lanes-lanes.ensures extreme)
