use Rattle.tl_types.specs.History.{database_of}
use Rattle.tl_types.specs.declared.batches.Batch.TheVariants as batch
use Rattle.tl_types.specs.Resolving.{resolved}
use Rattle.tl_batch.specs.Made.{committed}
use Rattle.tl_batch.specs.PutRows.{rows_put}
use Rattle.tl_batch.proofs.CommitLemmas.{found_there, room_now, named-match, found-match, ok_is, err_is}
use Rattle.tl_batch.proofs.SyncedLemmas.{named_synced, synced_fits}
use Rattle.tl_batch.proofs.resolving.resolve_sync.Goals as goal

pub whole_change-requires-clause-there : goal.whole_change-requires-clause-there
whole_change-requires-clause-there c =
    let named = found_there c.args.tables.now.commits c.args.tables.now.found c.args.name.now c.in-Some.number c.requires.found c.in-Some.ensures in
    named.within

pub whole_change-requires-clause-matching : goal.whole_change-requires-clause-matching
whole_change-requires-clause-matching c =
    let named = found_there c.args.tables.now.commits c.args.tables.now.found c.args.name.now c.in-Some.number c.requires.found c.in-Some.ensures in
    named-match (database_of c.args.tables.now.commits) c.args.name.now c.in-Some.number (rows_put c.args.rows) named c.requires.matching

pub returns-clause-ok : goal.returns-clause-ok
returns-clause-ok c =
    let named = found_there c.args.tables.now.commits c.args.tables.now.found c.args.name.now c.in-Some.number c.requires.found c.in-Some.ensures in
    let next = room_now c.args.tables.now.commits c.store-store.result.now c.args.limits.now.versions c.has_all_versions.result c.store-store.ensures.same c.has_all_versions.ensures c.if-has_all_versions.false in
    let made = named_synced c.args.limits.now (database_of c.args.tables.now.commits) c.args.author c.in-Some.number c.args.name.now (rows_put c.args.rows) c.in-Ok.made named next c.in-Ok.ensures in
    ok_is c.commit_of.result (resolved c.args.limits.now (database_of c.args.tables.now.commits) c.args.author (batch.Sync c.args.name.now (rows_put c.args.rows))) (committed c.args.author c.in-Ok.made) c.commit_of.ensures made

pub returns-clause-err : goal.returns-clause-err
returns-clause-err c =
    let named = found_there c.args.tables.now.commits c.args.tables.now.found c.args.name.now c.in-Some.number c.requires.found c.in-Some.ensures in
    let next = room_now c.args.tables.now.commits c.store-store.result.now c.args.limits.now.versions c.has_all_versions.result c.store-store.ensures.same c.has_all_versions.ensures c.if-has_all_versions.false in
    let made = named_synced c.args.limits.now (database_of c.args.tables.now.commits) c.args.author c.in-Some.number c.args.name.now (rows_put c.args.rows) c.in-Ok.made named next c.in-Ok.ensures in
    err_is c.commit_of.result (resolved c.args.limits.now (database_of c.args.tables.now.commits) c.args.author (batch.Sync c.args.name.now (rows_put c.args.rows))) (committed c.args.author c.in-Ok.made) c.commit_of.ensures made

pub returns-clause-fit : goal.returns-clause-fit
returns-clause-fit c =
    let named = found_there c.args.tables.now.commits c.args.tables.now.found c.args.name.now c.in-Some.number c.requires.found c.in-Some.ensures in
    let next = room_now c.args.tables.now.commits c.store-store.result.now c.args.limits.now.versions c.has_all_versions.result c.store-store.ensures.same c.has_all_versions.ensures c.if-has_all_versions.false in
    synced_fits c.args.limits.now (database_of c.args.tables.now.commits) c.args.author c.in-Some.number c.args.name.now (rows_put c.args.rows) c.in-Ok.made named next (found-match (database_of c.args.tables.now.commits) c.args.name.now c.in-Some.number (rows_put c.args.rows) named c.requires.matching) c.in-Ok.ensures c.commit_of.result c.commit_of.ensures
