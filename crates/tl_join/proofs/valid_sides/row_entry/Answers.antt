use Rattle.std.proofs.Common.{◌≡◌, rules, to_z, of_z, w64, slice_get, int_lt, true}
use Rattle.std.specs.Int.{int_min, int_max}
use Rattle.tl_join.specs.ValidSides.{side_rows}
use Rattle.tl_join.proofs.ValidSideLemmas.{row_some}
use Rattle.tl_join.proofs.valid_sides.row_entry.Goals as goal

pub returns-clause-entry : goal.returns-clause-entry
returns-clause-entry g c =
    let plan = c.args.plan.now in
    let side = c.args.side.now in
    let period = c.valid_at-period.result in
    let begin : to_z w64 (of_z w64 c.max-begin.result) ≡ int_max period.from plan.from = search rules in
    let end : to_z w64 (of_z w64 c.min-end.result) ≡ int_min period.to plan.to = search rules in
    let lasts : int_lt (to_z w64 (of_z w64 c.max-begin.result)) (to_z w64 (of_z w64 c.min-end.result)) ≡ true = search rules in
    row_some plan side.column c.args.id c.in_ok-code.code c.key_number.new.keys (slice_get (side_rows side) c.args.id) period _ _ begin end c.valid_at-period.ensures.value lasts c.in_ok-code.ensures.number
