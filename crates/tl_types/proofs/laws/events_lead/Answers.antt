use Rattle.tl_types.proofs.WalkLemmas.{events_lead, events_change}
use Rattle.tl_types.proofs.laws.events_lead.Goals as goal

pub returns-clause-set : goal.returns-clause-set
returns-clause-set c = events_lead

pub returns-clause-changes : goal.returns-clause-changes
returns-clause-changes c = events_change
