use Rattle.tl_engine.proofs.CallLemmas.{locked_mark}
use Rattle.tl_engine.proofs.laws.every_locked_mark_is_allowed.Goals as goal

pub returns : goal.returns
returns c = locked_mark
