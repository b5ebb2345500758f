use Rattle.std.proofs.Common.{ℕ, ◌==◌, not, get_or, map, ap, sym, ◌∙◌, arith, w64, of_z, to_z}
use Rattle.std.specs.Prelude.{ℤ, pos, int_lt, int_le}
use Rattle.std.specs.Simd.Lanes.{mask_l}
use Rattle.tl_lanes.specs.Masks.{passes}
use Rattle.tl_lanes.specs.declared.masks.LaneCmp.TheVariants.{Eq, Ne, Lt, Le, Gt, Ge}
use Rattle.tl_lanes.proofs.LaneMasks.{signed_mask, signed_mask_left, eq_raw, order_raw}
use Rattle.tl_lanes.proofs.masks.signed_lanes.Goals as goal

pub returns-in-Eq : goal.returns-in-Eq
returns-in-Eq c =
    let values = c.args.values.now in
    let b = c.args.bound in
    let V : ℕ → ℤ = λ k. get_or values k (pos 0) in
    let fits = c.all_fit.ensures in
    signed_mask 64 (λ x y. x == y) (λ x. passes Eq x b) values (of_z w64 b) c.requires (omega arith) (λ k below. eq_raw (V k) b (fits k below) c.ranges.bound)
    ∙ ap (λ cmp. mask_l (map (λ x. passes cmp x b) values)) (sym c.in-Eq.is)

pub returns-in-Ne : goal.returns-in-Ne
returns-in-Ne c =
    let values = c.args.values.now in
    let b = c.args.bound in
    let V : ℕ → ℤ = λ k. get_or values k (pos 0) in
    let fits = c.all_fit.ensures in
    signed_mask 64 (λ x y. not (x == y)) (λ x. passes Ne x b) values (of_z w64 b) c.requires (omega arith) (λ k below. ap not (eq_raw (V k) b (fits k below) c.ranges.bound))
    ∙ ap (λ cmp. mask_l (map (λ x. passes cmp x b) values)) (sym c.in-Ne.is)

pub returns-in-Lt : goal.returns-in-Lt
returns-in-Lt c =
    let values = c.args.values.now in
    let b = c.args.bound in
    let V : ℕ → ℤ = λ k. get_or values k (pos 0) in
    let fits = c.all_fit.ensures in
    signed_mask 64 (λ x y. int_lt (to_z w64 x) (to_z w64 y)) (λ x. passes Lt x b) values (of_z w64 b) c.requires (omega arith) (λ k below. order_raw int_lt (V k) b (fits k below) c.ranges.bound)
    ∙ ap (λ cmp. mask_l (map (λ x. passes cmp x b) values)) (sym c.in-Lt.is)

pub returns-in-Le : goal.returns-in-Le
returns-in-Le c =
    let values = c.args.values.now in
    let b = c.args.bound in
    let V : ℕ → ℤ = λ k. get_or values k (pos 0) in
    let fits = c.all_fit.ensures in
    signed_mask 64 (λ x y. int_le (to_z w64 x) (to_z w64 y)) (λ x. passes Le x b) values (of_z w64 b) c.requires (omega arith) (λ k below. order_raw int_le (V k) b (fits k below) c.ranges.bound)
    ∙ ap (λ cmp. mask_l (map (λ x. passes cmp x b) values)) (sym c.in-Le.is)

pub returns-in-Gt : goal.returns-in-Gt
returns-in-Gt c =
    let values = c.args.values.now in
    let b = c.args.bound in
    let V : ℕ → ℤ = λ k. get_or values k (pos 0) in
    let fits = c.all_fit.ensures in
    signed_mask_left 64 (λ x y. int_lt (to_z w64 x) (to_z w64 y)) (λ x. passes Gt x b) values (of_z w64 b) c.requires (omega arith) (λ k below. order_raw int_lt b (V k) c.ranges.bound (fits k below))
    ∙ ap (λ cmp. mask_l (map (λ x. passes cmp x b) values)) (sym c.in-Gt.is)

pub returns-in-Ge : goal.returns-in-Ge
returns-in-Ge c =
    let values = c.args.values.now in
    let b = c.args.bound in
    let V : ℕ → ℤ = λ k. get_or values k (pos 0) in
    let fits = c.all_fit.ensures in
    signed_mask_left 64 (λ x y. int_le (to_z w64 x) (to_z w64 y)) (λ x. passes Ge x b) values (of_z w64 b) c.requires (omega arith) (λ k below. order_raw int_le b (V k) c.ranges.bound (fits k below))
    ∙ ap (λ cmp. mask_l (map (λ x. passes cmp x b) values)) (sym c.in-Ge.is)
