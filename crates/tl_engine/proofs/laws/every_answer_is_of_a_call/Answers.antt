use Rattle.tl_engine.proofs.CallLemmas.{base_of, commit_call, read_call, tend_calls}
use Rattle.tl_engine.proofs.laws.every_answer_is_of_a_call.Goals as goal

pub returns-clause-base : goal.returns-clause-base
returns-clause-base c = base_of

pub returns-clause-commit : goal.returns-clause-commit
returns-clause-commit c = commit_call

pub returns-clause-read : goal.returns-clause-read
returns-clause-read c = read_call

pub returns-clause-tend : goal.returns-clause-tend
returns-clause-tend c = tend_calls
