use Rattle.tl_core.proofs.LawLemmas.{goes_on}
use Rattle.tl_core.proofs.laws.every_run_goes_on.Goals as goal

pub returns : goal.returns
returns c = goes_on
