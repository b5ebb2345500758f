-- The replay with one commit more, or as it was.
use Rattle.tl_history.proofs.FitLemmas.{paced_next}
use Rattle.tl_history.proofs.replaying.PacedReplayApplies.apply.Goals as goal

pub returns : goal.returns
returns c = λ first commits paced.
    paced_next c.args.limits.now c.args.self.k commits first c.args.self.replay c.in_ok-replay.replay c.args.commit.now c.in_ok-replay.fits paced c.in_ok-replay.ensures
