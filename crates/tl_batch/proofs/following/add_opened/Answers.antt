use Rattle.tl_batch.proofs.IndexedRows.{rows_undone}
use Rattle.tl_batch.proofs.following.add_opened.Goals as goal

pub returns-in-Err-clause-err : goal.returns-in-Err-clause-err
returns-in-Err-clause-err c = rows_undone c.args.place c.args.first c.args.rows.now c.args.index.now c.push_opened.new.index c.remove_opened.new.index c.requires.below c.push_opened.ensures.most c.push_opened.ensures.least c.remove_opened.ensures
