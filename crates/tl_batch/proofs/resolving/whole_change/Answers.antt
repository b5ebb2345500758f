use Rattle.std.proofs.Common.{ap, ◌∙◌}
use Rattle.tl_types.specs.History.{database_of}
use Rattle.tl_batch.specs.Made.{change_made}
use Rattle.tl_batch.specs.PutRows.{rows_put}
use Rattle.tl_batch.proofs.CommitLemmas.{rows-few, some_match}
use Rattle.tl_batch.proofs.SyncedLemmas.{synced_ascend, synced_at, synced_change, synced_few}
use Rattle.tl_batch.proofs.resolving.whole_change.Goals as goal

pub sync_made-requires-clause-matching : goal.sync_made-requires-clause-matching
sync_made-requires-clause-matching c = some_match (database_of c.args.tables.now.commits).tables c.args.number c.table-table.result (rows_put c.args.rows) c.table-table.ensures c.requires.matching

pub change_within-requires-clause-ascending : goal.change_within-requires-clause-ascending
change_within-requires-clause-ascending c = synced_ascend c.table-table.result (rows_put c.args.rows) c.in_ok-made.made c.in_ok-made.ensures

pub change_within-requires-clause-few : goal.change_within-requires-clause-few
change_within-requires-clause-few c = synced_few c.table-table.result (rows_put c.args.rows) c.in_ok-made.made c.in_ok-made.ensures (rows-few c.table-table.result.rows c.rows.result c.rows.ensures.number c.rows.ensures.few)

pub returns : goal.returns
returns c = synced_at (database_of c.args.tables.now.commits).tables c.args.number c.args.limit c.table-table.result (rows_put c.args.rows) c.in_ok-change.change c.table-table.ensures
    (synced_change c.args.limit c.args.number c.table-table.result (rows_put c.args.rows) c.in_ok-made.made c.in_ok-change.change c.in_ok-made.ensures (c.in_ok-change.ensures ∙ ap (λ n. change_made c.args.limit c.args.number n c.in_ok-made.made) c.rows.ensures.number))
