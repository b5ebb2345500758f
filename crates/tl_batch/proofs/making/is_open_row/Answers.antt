use Rattle.tl_types.specs.History.{database_of, rows_of}
use Rattle.tl_batch.proofs.MakingLemmas.{open_by_end}
use Rattle.tl_batch.proofs.making.is_open_row.Goals as goal

pub returns : goal.returns
returns g c = open_by_end (rows_of (database_of c.args.store.now) c.args.number) c.args.row c.period_at.result c.period_at.ensures.value
