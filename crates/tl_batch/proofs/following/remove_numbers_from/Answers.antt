use Rattle.std.proofs.Common.{arith, get_or, refl, ◌<◌, length, rules, SFits, w64}
use Rattle.std.proofs.lemmas.Int.{to_z-of_z}
use Rattle.tl_batch.specs.KeyIndex.{has_row}
use Rattle.tl_batch.proofs.ClosedNumbers.{number_gone}
use Rattle.tl_batch.proofs.following.remove_numbers_from.Goals as goal

pub loop-id-preserved : goal.loop-id-preserved
loop-id-preserved g c =
    let fits : SFits w64 c.at-key.result = search rules in
    let within : c.loop-id.id-index < length c.args.closes.now = omega arith in
    number_gone c.args.closes.now c.loop-id.id-index (get_or c.args.closes.now c.loop-id.id-index 0) c.args.keys.now c.at-key.result (has_row c.loop-id.index) (has_row c.args.index.now) (has_row c.remove_number.new.self) within refl (c.requires.known c.loop-id.id-index 0 within) c.at-key.ensures.value c.loop-id.invariant (rw (to_z-of_z w64 c.at-key.result fits) at c.remove_number.ensures)
