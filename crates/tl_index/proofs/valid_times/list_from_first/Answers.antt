use Rattle.tl_index.specs.Tables.{rows_in}
use Rattle.tl_index.proofs.ValidLemmas.{all_changes}
use Rattle.tl_index.proofs.valid_times.list_from_first.Goals as goal

pub returns-clause-list : goal.returns-clause-list
returns-clause-list g c = all_changes c.args.choice.now c.args.table.now.db.version c.args.version (rows_in c.args.table.now) c.in_ok-changes.changes.items c.events.ensures.formed c.in_ok-changes.ensures.rises c.in_ok-changes.ensures.lead
