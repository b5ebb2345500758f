use Rattle.tl_jobs.proofs.ForgetLemmas.{answer_by_tables, kept_after, kept_before, forgotten_after}
use Rattle.tl_jobs.proofs.laws.forgetting_keeps_answers.Goals as goal

pub returns-clause-tables : goal.returns-clause-tables
returns-clause-tables c = answer_by_tables

pub returns-clause-after : goal.returns-clause-after
returns-clause-after c = λ db commit q t stamp f e ok l. kept_after db commit f q t stamp e ok l

pub returns-clause-before : goal.returns-clause-before
returns-clause-before c = λ limits db commit q t stamp f fit e r ok. kept_before db commit f limits q t stamp fit e r ok

pub returns-clause-forgotten : goal.returns-clause-forgotten
returns-clause-forgotten c = λ db commit q t stamp f e ok l. forgotten_after db commit f q t stamp e ok l
