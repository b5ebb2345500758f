use Rattle.tl_app.proofs.PlanLemmas.{plan_suits}
use Rattle.tl_app.proofs.laws.a_checked_plan_suits.Goals as goal

pub returns : goal.returns
returns c = plan_suits
