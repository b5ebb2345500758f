use Rattle.tl_follow.proofs.InputLemmas.{one_packet, one_input}
use Rattle.tl_follow.proofs.laws.inputs_are_read_once.Goals as goal

pub returns-clause-packet : goal.returns-clause-packet
returns-clause-packet c = one_packet

pub returns-clause-input : goal.returns-clause-input
returns-clause-input c = one_input
