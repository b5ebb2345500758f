use Rattle.tl_running.proofs.PileLemmas.{no_number}
use Rattle.tl_running.proofs.pile.is_far.Goals as goal

pub returns-in-None-clause-close : goal.returns-in-None-clause-close
returns-in-None-clause-close c is some = absurd (no_number c.args.near.now.numbers some c.in-None.ensures.none)
