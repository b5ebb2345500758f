use Rattle.std.proofs.Common.{ap, ◌∙◌, sym}
use Rattle.std.specs.Prelude.{if◌then◌else◌}
use Rattle.tl_lanes.specs.Lanes.{comes_first, lane}
use Rattle.tl_lanes.proofs.LaneSteps.{lane_of_first, length-first}
use Rattle.tl_lanes.proofs.extremes.first_lanes.Goals as goal

pub returns-then-least-clause-first : goal.returns-then-least-clause-first
returns-then-least-clause-first c = λ l below.
    let left = c.args.left in
    let right = c.args.right in
    let fits_left = c.requires.left.1 l below in
    let fits_right = c.requires.right.1 l below in
    lane_of_first left right left right 64 l c.requires.left.0 c.requires.right.0 c.requires.left.0 c.requires.right.0 below fits_left fits_right fits_left fits_right
    ∙ ap (λ least. if comes_first least (lane left l) (lane right l) then lane left l else lane right l) (sym c.if-least.true)

pub returns-then-least-clause-long : goal.returns-then-least-clause-long
returns-then-least-clause-long c =
    length-first c.args.left c.args.right c.args.left c.args.right 64 c.requires.left.0 c.requires.right.0 c.requires.left.0 c.requires.right.0

pub returns-clause-first : goal.returns-clause-first
returns-clause-first c = λ l below.
    let left = c.args.left in
    let right = c.args.right in
    let fits_left = c.requires.left.1 l below in
    let fits_right = c.requires.right.1 l below in
    lane_of_first left right right left 64 l c.requires.left.0 c.requires.right.0 c.requires.right.0 c.requires.left.0 below fits_left fits_right fits_right fits_left
    ∙ ap (λ least. if comes_first least (lane left l) (lane right l) then lane left l else lane right l) (sym c.if-least.false)

pub returns-clause-long : goal.returns-clause-long
returns-clause-long c =
    length-first c.args.left c.args.right c.args.right c.args.left 64 c.requires.left.0 c.requires.right.0 c.requires.right.0 c.requires.left.0
