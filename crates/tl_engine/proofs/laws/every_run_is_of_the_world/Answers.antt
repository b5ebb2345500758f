use Rattle.tl_engine.proofs.CallLemmas.{run_steps}
use Rattle.tl_engine.proofs.laws.every_run_is_of_the_world.Goals as goal

pub returns : goal.returns
returns c = run_steps
