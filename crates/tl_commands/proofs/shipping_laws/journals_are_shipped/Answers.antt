use Rattle.tl_commands.proofs.JournalLemmas.{image_spelled, image_packets}
use Rattle.tl_commands.proofs.shipping_laws.journals_are_shipped.Goals as goal

pub returns-clause-spelled : goal.returns-clause-spelled
returns-clause-spelled c = image_spelled

pub returns-clause-packets : goal.returns-clause-packets
returns-clause-packets c = image_packets
