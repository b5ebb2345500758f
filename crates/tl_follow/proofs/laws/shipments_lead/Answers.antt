use Rattle.tl_follow.proofs.ShipmentLemmas.{shipment_copies, shipment_leads, shipment_no_bad}
use Rattle.tl_follow.proofs.laws.shipments_lead.Goals as goal

pub returns-clause-leads : goal.returns-clause-leads
returns-clause-leads c = shipment_leads

pub returns-clause-copies : goal.returns-clause-copies
returns-clause-copies c = shipment_copies

pub returns-clause-sound : goal.returns-clause-sound
returns-clause-sound c = shipment_no_bad
