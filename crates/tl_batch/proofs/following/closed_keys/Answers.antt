use Rattle.tl_types.specs.History.{database_of, rows_of}
use Rattle.tl_batch.proofs.ClosedNumbers.{keys_closed}
use Rattle.tl_batch.proofs.following.closed_keys.Goals as goal

pub returns-then-numbers-clause-keys : goal.returns-then-numbers-clause-keys
returns-then-numbers-clause-keys c = keys_closed c.args.place c.args.change.now.closes c.int_column-keys.result (rows_of (database_of c.args.store.now) c.args.change.now.table) (rw c.table-number.ensures at c.int_column-keys.ensures)
