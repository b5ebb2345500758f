use Rattle.tl_session.proofs.PromiseLemmas.{play_of_lone}
use Rattle.tl_session.proofs.laws.lone_phases_play.Goals as goal

pub returns : goal.returns
returns c = play_of_lone
