use Rattle.tl_jobs.specs.Turns.{meant}
use Rattle.tl_session.proofs.PlayLemmas.{promised_play}
use Rattle.tl_session.proofs.laws.lone_sessions_play.Goals as goal

pub returns : goal.returns
returns c = promised_play meant
