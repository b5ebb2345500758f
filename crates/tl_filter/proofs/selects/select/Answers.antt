use Rattle.tl_types.specs.Entries.{commits_of}
use Rattle.tl_types.specs.History.{database_of, rows_of}
use Rattle.tl_query.specs.Passing.{passes}
use Rattle.tl_filter.proofs.SelectLemmas.{all_told}
use Rattle.tl_filter.proofs.selects.select.Goals as goal

pub returns-clause-rows : goal.returns-clause-rows
returns-clause-rows g c =
    all_told (passes c.args.pred.now) (rows_of (database_of (commits_of c.args.snapshot.now)) c.args.table) c.args.into.now c.narrow_rows.new.set c.narrow_rows.ensures.rows c.requires.rows (rw c.store.ensures at c.narrow_rows.ensures.members)
