use Rattle.tl_types.proofs.TimeLemmas.{history_timed, history_moment}
use Rattle.tl_types.proofs.laws.times_are_reached.Goals as goal

pub returns-clause-stamps : goal.returns-clause-stamps
returns-clause-stamps c = λ cs f. (history_timed cs f).rise

pub returns-clause-reached : goal.returns-clause-reached
returns-clause-reached c = λ cs f. (history_timed cs f).stamps

pub returns-clause-floors : goal.returns-clause-floors
returns-clause-floors c = λ cs f. (history_timed cs f).floors

pub returns-clause-moments : goal.returns-clause-moments
returns-clause-moments c = history_moment
