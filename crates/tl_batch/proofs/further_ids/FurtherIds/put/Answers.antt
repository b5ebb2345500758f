use Rattle.std.proofs.Common.{Some}
use Rattle.tl_batch.proofs.KeyIndexLemmas.{copied}
use Rattle.tl_batch.proofs.further_ids.FurtherIds.put.Goals as goal

pub returns-clause-ok : goal.returns-clause-ok
returns-clause-ok c = copied c.args.key.now c.in_ok-copy.copy (Some c.args.set) c.self.inside.ids.entries c.args.self.now c.insert.new.self.entries c.in_ok-copy.ensures.cases c.self.view_is c.in_ok-insert.ensures.updates.0
