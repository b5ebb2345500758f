-- The version of a database is the number of its commits.
use Rattle.tl_history.proofs.BuildLemmas.{built_now}
use Rattle.tl_history.proofs.building.build_by.Goals as goal

pub returns : goal.returns
returns g c = built_now c.args.snapshot.now c.args.table c.build.result c.build.ensures
