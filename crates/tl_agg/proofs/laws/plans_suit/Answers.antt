use Rattle.tl_agg.proofs.TypedLemmas.{plans_suit}
use Rattle.tl_agg.proofs.laws.plans_suit.Goals as goal

pub returns : goal.returns
returns c = plans_suit
