use Rattle.std.proofs.Common.{◌∙◌}
use Rattle.tl_index.specs.Tables.{rows_in}
use Rattle.tl_index.proofs.WalkLemmas.{leads}
use Rattle.tl_index.proofs.walks.rows_walked.Goals as goal

pub walk-requires-clause-ordered : goal.walk-requires-clause-ordered
walk-requires-clause-ordered g c = (leads (rows_in c.args.table.now) c.args.set c.events.result.now c.args.from c.place-to.result c.args.version c.args.table.now.db.version c.events.ensures.formed c.requires.start c.requires.version c.events.ensures.events c.place-to.ensures.place).ordered

pub walk-requires-clause-within : goal.walk-requires-clause-within
walk-requires-clause-within g c = (leads (rows_in c.args.table.now) c.args.set c.events.result.now c.args.from c.place-to.result c.args.version c.args.table.now.db.version c.events.ensures.formed c.requires.start c.requires.version c.events.ensures.events c.place-to.ensures.place).within

pub walk-requires-clause-rows : goal.walk-requires-clause-rows
walk-requires-clause-rows g c = (leads (rows_in c.args.table.now) c.args.set c.events.result.now c.args.from c.place-to.result c.args.version c.args.table.now.db.version c.events.ensures.formed c.requires.start c.requires.version c.events.ensures.events c.place-to.ensures.place).inside

pub returns-clause-set : goal.returns-clause-set
returns-clause-set g c = c.walk.ensures.set ∙ (leads (rows_in c.args.table.now) c.args.set c.events.result.now c.args.from c.place-to.result c.args.version c.args.table.now.db.version c.events.ensures.formed c.requires.start c.requires.version c.events.ensures.events c.place-to.ensures.place).set_is
