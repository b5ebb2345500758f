use Rattle.tl_agg.proofs.PassLemmas.{kept_pass}
use Rattle.tl_agg.proofs.laws.kept_rows_pass.Goals as goal

pub returns : goal.returns
returns c = kept_pass
