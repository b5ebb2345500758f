use Rattle.tl_watch.proofs.CallLemmas.{calls_stand, calls_plans}
use Rattle.tl_watch.proofs.laws.calls_keep.Goals as goal

pub returns-clause-stands : goal.returns-clause-stands
returns-clause-stands c = calls_stand

pub returns-clause-plans : goal.returns-clause-plans
returns-clause-plans c = calls_plans
