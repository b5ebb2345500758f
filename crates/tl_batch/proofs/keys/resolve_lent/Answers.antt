use Rattle.tl_types.specs.History.{database_of}
use Rattle.tl_types.specs.Limits.{standard_limits}
use Rattle.tl_batch.proofs.CommitLemmas.{ok_within}
use Rattle.tl_batch.proofs.keys.resolve_lent.Goals as goal

pub returns-in-Ok-clause-standard : goal.returns-in-Ok-clause-standard
returns-in-Ok-clause-standard c = ok_within c.args.limits.now standard_limits (database_of c.args.tables.now.commits) c.resolve_create.result (rw c.store-store.ensures.same at c.resolve_create.ensures.fit)

pub returns-in-Put-clause-standard : goal.returns-in-Put-clause-standard
returns-in-Put-clause-standard c = ok_within c.args.limits.now standard_limits (database_of c.args.tables.now.commits) c.resolve_put.result c.resolve_put.ensures.fit

pub returns-in-Remove-clause-standard : goal.returns-in-Remove-clause-standard
returns-in-Remove-clause-standard c = ok_within c.args.limits.now standard_limits (database_of c.args.tables.now.commits) c.resolve_remove.result c.resolve_remove.ensures.fit

pub returns-in-Sync-clause-standard : goal.returns-in-Sync-clause-standard
returns-in-Sync-clause-standard c = ok_within c.args.limits.now standard_limits (database_of c.args.tables.now.commits) c.resolve_sync.result c.resolve_sync.ensures.fit

pub returns-in-Moment-clause-standard : goal.returns-in-Moment-clause-standard
returns-in-Moment-clause-standard c = ok_within c.args.limits.now standard_limits (database_of c.args.tables.now.commits) c.resolve_moment.result (rw c.store-store.ensures.same at c.resolve_moment.ensures.fit)

pub returns-in-Forget-clause-standard : goal.returns-in-Forget-clause-standard
returns-in-Forget-clause-standard c = ok_within c.args.limits.now standard_limits (database_of c.args.tables.now.commits) c.resolve_floor.result (rw c.store-store.ensures.same at c.resolve_floor.ensures.fit)
