use Rattle.tl_types.proofs.TimeLemmas.{rows_without_floors}
use Rattle.tl_types.proofs.laws.rows_have_no_floor.Goals as goal

pub returns : goal.returns
returns c = rows_without_floors
