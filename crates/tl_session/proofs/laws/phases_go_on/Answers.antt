use Rattle.tl_session.proofs.PromiseLemmas.{run_none, run_more}
use Rattle.tl_session.proofs.laws.phases_go_on.Goals as goal

pub returns-clause-none : goal.returns-clause-none
returns-clause-none c = run_none

pub returns-clause-more : goal.returns-clause-more
returns-clause-more c = run_more
