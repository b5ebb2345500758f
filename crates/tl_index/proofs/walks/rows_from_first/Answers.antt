use Rattle.tl_index.specs.Tables.{rows_in}
use Rattle.tl_index.proofs.WalkLemmas.{none_starts}
use Rattle.tl_index.proofs.walks.rows_from_first.Goals as goal

pub rows_walked-requires-clause-start : goal.rows_walked-requires-clause-start
rows_walked-requires-clause-start g c = none_starts c.args.table.now.db.version (rows_in c.args.table.now) c.in_ok-set.set c.rows.result c.args.version c.events.ensures.formed c.in_ok-set.ensures c.rows.ensures.number
