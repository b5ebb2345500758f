use Rattle.tl_running.proofs.PileLemmas.{moves_both}
use Rattle.tl_running.proofs.pile.move_share.Goals as goal

pub returns-clause-moves : goal.returns-clause-moves
returns-clause-moves c = moves_both c.args.near.now c.args.far.now c.move_near-holds.new.near c.move_near-holds.new.far c.move_near-holds-2.new.near c.move_near-holds-2.new.far c.move_near-holds.ensures.moves c.move_near-holds-2.ensures.moves
