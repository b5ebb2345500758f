use Rattle.tl_follow.proofs.ShipmentLemmas.{shipment_from, several_from, shipment_leads_to, shipment_copies_to, shipment_copies_first}
use Rattle.tl_follow.proofs.laws.shipments_of_a_leader.Goals as goal

pub returns-clause-come : goal.returns-clause-come
returns-clause-come c = shipment_from

pub returns-clause-several : goal.returns-clause-several
returns-clause-several c = several_from

pub returns-clause-leads : goal.returns-clause-leads
returns-clause-leads c = shipment_leads_to

pub returns-clause-copies : goal.returns-clause-copies
returns-clause-copies c = shipment_copies_to

pub returns-clause-first : goal.returns-clause-first
returns-clause-first c = shipment_copies_first
