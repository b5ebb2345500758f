use Rattle.tl_follow.proofs.ShipmentLemmas.{shipment_none, shipment_more, shipment_end}
use Rattle.tl_follow.proofs.laws.shipments_grow.Goals as goal

pub returns-clause-none : goal.returns-clause-none
returns-clause-none c = shipment_none

pub returns-clause-more : goal.returns-clause-more
returns-clause-more c = shipment_more

pub returns-clause-end : goal.returns-clause-end
returns-clause-end c = shipment_end
