use Rattle.std.proofs.Common.{◌+◌, ◌-◌, ◌*◌, map, take, drop, subst, sym, refl, arith, w64, to_z}
use Rattle.tl_lanes.specs.Masks.{picked}
use Rattle.tl_lanes.specs.Lanes.{Reach}
use Rattle.tl_lanes.proofs.LaneSteps.{again, reach_more, reach_splat}
use Rattle.tl_lanes.proofs.extremes.best_lanes.Goals as goal

pub loop-i-init : goal.loop-i-init
loop-i-init c = reach_splat c.args.least (picked c.args.mask.now c.args.values.now) c.args.seed 64 refl c.ranges.seed c.requires.seed

pub loop-i-preserved : goal.loop-i-preserved
loop-i-preserved c =
    let least = c.args.least in
    let mask = c.args.mask.now in
    let values = c.args.values.now in
    let i = c.loop-i.i in
    let part = take (64 * i + 64 - 64 * i) (drop (64 * i) values) in
    let after = c.next_lanes-lanes.result in
    let fit = c.next_lanes-lanes.ensures.fit in
    subst (Reach least (picked mask values) (picked mask (take (64 * (i + 1)) values))) (sym (again after fit))
    (reach_more least mask values part (map (to_z w64) c.loop-i.lanes) after i (64 * i + 64 - 64 * i) (64 * (i + 1)) (omega arith) (omega arith) (omega arith) refl fit
    c.next_lanes-lanes.ensures.next c.loop-i.invariant)
