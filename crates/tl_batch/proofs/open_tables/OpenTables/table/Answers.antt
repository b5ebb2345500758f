use Rattle.tl_types.specs.History.{database_of}
use Rattle.tl_batch.proofs.CommitLemmas.{ids_there}
use Rattle.tl_batch.proofs.open_tables.OpenTables.table.Goals as goal

pub new-requires-clause-ids : goal.new-requires-clause-ids
new-requires-clause-ids c = ids_there c.self.inside.keys.now (database_of c.self.inside.store.now) c.args.number c.index_of-index.result.now c.self.invariant.stand c.index_of-index.ensures
