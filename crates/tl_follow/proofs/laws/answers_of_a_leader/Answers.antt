use Rattle.tl_follow.proofs.Led.{same_tables, same_answers}
use Rattle.tl_follow.proofs.laws.answers_of_a_leader.Goals as goal

pub returns-clause-tables : goal.returns-clause-tables
returns-clause-tables c = same_tables

pub returns-clause-answers : goal.returns-clause-answers
returns-clause-answers c = same_answers
