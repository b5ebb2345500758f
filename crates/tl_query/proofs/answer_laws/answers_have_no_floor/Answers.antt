use Rattle.tl_query.proofs.FloorLemmas.{one_answer}
use Rattle.tl_query.proofs.answer_laws.answers_have_no_floor.Goals as goal

pub returns : goal.returns
returns c = one_answer
