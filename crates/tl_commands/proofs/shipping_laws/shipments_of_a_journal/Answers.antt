use Rattle.tl_commands.proofs.JournalLemmas.{image_first, image_up_to}
use Rattle.tl_commands.proofs.shipping_laws.shipments_of_a_journal.Goals as goal

pub returns-clause-first : goal.returns-clause-first
returns-clause-first c = image_first

pub returns-clause-up_to : goal.returns-clause-up_to
returns-clause-up_to c = image_up_to
