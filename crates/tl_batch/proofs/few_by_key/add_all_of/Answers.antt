use Rattle.std.proofs.Common.{refl}
use Rattle.tl_batch.proofs.AllIdsLemmas.{key_of_few}
use Rattle.tl_batch.proofs.few_by_key.add_all_of.Goals as goal

pub returns-clause-keys : goal.returns-clause-keys
returns-clause-keys g c = λ n. key_of_few g.K.PartialEq.eq c.args.few.now.entries c.args.few.now.entries n c.iter-entries.ensures.found refl
