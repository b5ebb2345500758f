use Rattle.tl_engine.proofs.CallLemmas.{locked_steps}
use Rattle.tl_engine.proofs.laws.every_locked_commit_is_allowed.Goals as goal

pub returns : goal.returns
returns c = locked_steps
