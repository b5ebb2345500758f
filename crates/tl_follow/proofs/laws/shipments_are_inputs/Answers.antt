use Rattle.tl_follow.proofs.ShipmentLemmas.{shipment_is_input, shipment_no_fault, shipment_packets}
use Rattle.tl_follow.proofs.laws.shipments_are_inputs.Goals as goal

pub returns-clause-packets : goal.returns-clause-packets
returns-clause-packets c = shipment_packets

pub returns-clause-input : goal.returns-clause-input
returns-clause-input c = shipment_is_input

pub returns-clause-whole : goal.returns-clause-whole
returns-clause-whole c = shipment_no_fault
