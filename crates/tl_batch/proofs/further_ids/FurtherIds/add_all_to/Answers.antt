use Rattle.tl_batch.proofs.AllIdsLemmas.{key_of_further}
use Rattle.tl_batch.proofs.further_ids.FurtherIds.add_all_to.Goals as goal

pub returns-clause-keys : goal.returns-clause-keys
returns-clause-keys c = λ n. key_of_further c.self.inside.ids.entries c.args.self.now n c.iter-entries.ensures.found c.self.view_is
