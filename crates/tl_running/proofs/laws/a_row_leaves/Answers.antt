use Rattle.tl_running.proofs.StandingLemmas.{can_leave, row_leaves}
use Rattle.tl_running.proofs.laws.a_row_leaves.Goals as goal

pub returns-clause-can : goal.returns-clause-can
returns-clause-can c = can_leave

pub returns-clause-stands : goal.returns-clause-stands
returns-clause-stands c = row_leaves
