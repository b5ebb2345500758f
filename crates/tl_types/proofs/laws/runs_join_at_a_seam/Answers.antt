use Rattle.tl_types.proofs.SeamLemmas.{seam_runs}
use Rattle.tl_types.proofs.laws.runs_join_at_a_seam.Goals as goal

pub returns : goal.returns
returns c = seam_runs
