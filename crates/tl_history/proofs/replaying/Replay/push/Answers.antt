-- What is kept with one commit more.
use Rattle.tl_history.proofs.FitLemmas.{replay_more}
use Rattle.tl_history.proofs.replaying.Replay.push.Goals as goal

pub invariant_of-result : goal.invariant_of-result
invariant_of-result c =
    replay_more c.args.k c.self.inside.snapshot c.in_ok-snapshot.snapshot c.self.inside.keys c.follow.new.self c.store.result.now
    c.args.commit.now c.self.invariant c.in_ok-snapshot.ensures c.store.ensures c.in_ok-follow.ensures.ok
