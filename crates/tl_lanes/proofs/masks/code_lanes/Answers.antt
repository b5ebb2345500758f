use Rattle.std.proofs.Common.{◌==◌, not, map, ap, sym, ◌∙◌, arith}
use Rattle.std.specs.Simd.Lanes.{mask_l}
use Rattle.tl_lanes.specs.Masks.{agrees}
use Rattle.tl_lanes.proofs.LaneMasks.{unsigned_mask}
use Rattle.tl_lanes.proofs.masks.code_lanes.Goals as goal

pub returns-then-equal : goal.returns-then-equal
returns-then-equal c =
    unsigned_mask 64 (λ x y. x == y) c.args.values.now c.args.code c.requires (omega arith)
    ∙ ap (λ equal. mask_l (map (λ x. agrees equal x c.args.code) c.args.values.now)) (sym c.if-equal.true)

pub returns-else-equal : goal.returns-else-equal
returns-else-equal c =
    unsigned_mask 64 (λ x y. not (x == y)) c.args.values.now c.args.code c.requires (omega arith)
    ∙ ap (λ equal. mask_l (map (λ x. agrees equal x c.args.code) c.args.values.now)) (sym c.if-equal.false)
