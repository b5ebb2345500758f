use Rattle.std.proofs.Common.{refl, ◌<◌, length, arith}
use Rattle.tl_types.specs.History.{database_of}
use Rattle.tl_batch.proofs.FollowLemmas.{made_there}
use Rattle.tl_batch.proofs.MakingLemmas.{still_made}
use Rattle.tl_batch.proofs.making.make.Goals as goal

pub returns-clause-same : goal.returns-clause-same
returns-clause-same c = still_made c.args.keys.now.items _ (database_of c.args.store.now) c.args.number c.in_ok-index.index c.requires.stands refl c.in_ok-index.ensures

pub returns-clause-made : goal.returns-clause-made
returns-clause-made c =
    let within : c.args.number < length c.args.keys.now.items =
    let a = c.requires.stands.tables in
    let b = c.requires.there in
    omega arith in
    made_there c.args.keys.now.items _ c.args.number c.in_ok-index.index refl within
