use Rattle.tl_store.proofs.LogLemmas.{schema_shown}
use Rattle.tl_store.proofs.store.Store.schema.Goals as goal

pub returns-clause-columns : goal.returns-clause-columns
returns-clause-columns c =
    (schema_shown c.self.inside.tables.items c.self.inside.log c.self.inside.stamps c.args.self.now c.args.table c.index.result.now c.get.result.now c.schema.result.now c.self.invariant c.self.view_is c.requires c.index.ensures c.get.ensures c.schema.ensures).0

pub returns-clause-valid : goal.returns-clause-valid
returns-clause-valid c =
    (schema_shown c.self.inside.tables.items c.self.inside.log c.self.inside.stamps c.args.self.now c.args.table c.index.result.now c.get.result.now c.schema.result.now c.self.invariant c.self.view_is c.requires c.index.ensures c.get.ensures c.schema.ensures).1
