use Rattle.tl_types.proofs.WellFormedLemmas.{history_formed, history_in_order}
use Rattle.tl_types.proofs.laws.rows_are_well_formed.Goals as goal

pub returns-clause-formed : goal.returns-clause-formed
returns-clause-formed c = history_formed

pub returns-clause-order : goal.returns-clause-order
returns-clause-order c = history_in_order
