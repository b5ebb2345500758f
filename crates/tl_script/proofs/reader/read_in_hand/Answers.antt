use Rattle.tl_script.specs.InHand.{spot_in}
use Rattle.tl_script.proofs.InHandLemmas.{hand_faulty}
use Rattle.tl_script.proofs.reader.read_in_hand.Goals as goal

pub returns-in-Some-clause-says : goal.returns-in-Some-clause-says
returns-in-Some-clause-says c =
    hand_faulty c.args.phase.now.limits c.read_lines.new.phase.limits (spot_in c.args.phase.now) (spot_in c.read_lines.new.phase)
    c.args.pending.now c.as_slice.result.now c.pass.new.self c.as_slice-2.result.now c.in_ok-found.found c.in-Some.fault c.into.result
    c.as_slice.ensures c.pass.ensures c.as_slice-2.ensures c.read_lines.ensures.limits c.into.ensures c.read_lines.ensures.before
    c.in_ok-found.ensures.read c.if-found.false c.in-Some.ensures
