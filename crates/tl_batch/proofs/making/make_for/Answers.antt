use Rattle.tl_types.specs.History.{database_of}
use Rattle.tl_batch.proofs.MakingLemmas.{number_there}
use Rattle.tl_batch.proofs.making.make_for.Goals as goal

pub make-requires-clause-there : goal.make-requires-clause-there
make-requires-clause-there c = number_there (database_of c.args.store.now) c.args.batch.now c.in-Some.number c.in-Some.ensures
