use Rattle.tl_batch.proofs.OpenTableLemmas.{table_there}
use Rattle.tl_batch.proofs.open_table.OpenTable.new.Goals as goal

pub invariant_of-result : goal.invariant_of-result
invariant_of-result c = table_there c.args.store.now c.args.number c.schema-schema.result.now c.args.index.now c.requires.there c.requires.matching c.requires.ids c.schema-schema.ensures.value
