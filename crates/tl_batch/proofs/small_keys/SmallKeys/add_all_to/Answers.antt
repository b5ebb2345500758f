use Rattle.tl_batch.proofs.AllIdsLemmas.{key_of_small}
use Rattle.tl_batch.proofs.small_keys.SmallKeys.add_all_to.Goals as goal

pub returns-clause-keys : goal.returns-clause-keys
returns-clause-keys c = key_of_small c.args.self.now
