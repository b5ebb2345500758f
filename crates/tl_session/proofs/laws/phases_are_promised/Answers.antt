use Rattle.tl_session.proofs.PromiseLemmas.{are_promised}
use Rattle.tl_session.proofs.laws.phases_are_promised.Goals as goal

pub returns : goal.returns
returns c = are_promised
