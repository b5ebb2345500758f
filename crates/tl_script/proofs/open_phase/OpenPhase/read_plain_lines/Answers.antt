use Rattle.std.proofs.Common.{◌≡◌, ◌∙◌, sym, ap, arith, Some}
use Rattle.tl_script.specs.InHand.{spot_in, place_of}
use Rattle.tl_script.proofs.PlainLemmas.{passes_plain}
use Rattle.tl_script.proofs.open_phase.OpenPhase.read_plain_lines.Goals as goal

pub returns-clause-read : goal.returns-clause-read
returns-clause-read c =
    let block = c.in-Some.block in
    let small = c.in_ok-extend_block.ensures.counted in
    let was : c.args.self.now.block ≡ Some block = sym c.take.ensures.value ∙ c.in-Some.is in
    passes_plain c.args.self.now.limits (spot_in c.args.self.now) (spot_in c.extend_block.new.self) c.args.bytes.now c.plain_lines-lines.result.now block.session block.line block.text block.bytes.items c.plain_lines-lines.ensures (c.has_room-has_room.ensures c.if-not-has_room.false) (omega (arith, small)) (ap place_of was) c.in_ok-extend_block.ensures.step
