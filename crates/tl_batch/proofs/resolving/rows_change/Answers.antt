use Rattle.std.proofs.Common.{false, ap, ◌∙◌}
use Rattle.tl_types.specs.History.{database_of}
use Rattle.tl_types.specs.Resolving.{put_lines}
use Rattle.tl_batch.specs.Made.{change_made}
use Rattle.tl_batch.specs.PutRows.{rows_put}
use Rattle.tl_batch.proofs.CommitLemmas.{made_at, made-change, made-ascend, made-few, some_match, rows-few}
use Rattle.tl_batch.proofs.resolving.rows_change.Goals as goal

pub put_made-requires-clause-matching : goal.put_made-requires-clause-matching
put_made-requires-clause-matching c = some_match (database_of c.args.tables.now.commits).tables c.args.number c.table-table.result (rows_put c.args.rows) c.table-table.ensures c.requires.matching

pub change_within-requires-clause-ascending : goal.change_within-requires-clause-ascending
change_within-requires-clause-ascending c = made-ascend false c.table-table.result.schema c.table-table.result.rows (put_lines c.table-table.result.schema (rows_put c.args.rows)) c.in_ok-made.made c.in_ok-made.ensures

pub change_within-requires-clause-few : goal.change_within-requires-clause-few
change_within-requires-clause-few c = made-few false c.table-table.result.schema c.table-table.result.rows (put_lines c.table-table.result.schema (rows_put c.args.rows)) c.in_ok-made.made c.in_ok-made.ensures (rows-few c.table-table.result.rows c.rows.result c.rows.ensures.number c.rows.ensures.few)

pub returns : goal.returns
returns c = made_at (database_of c.args.tables.now.commits).tables c.args.number c.args.limit false c.table-table.result (λ schema. put_lines schema (rows_put c.args.rows)) c.in_ok-change.change c.table-table.ensures
    (made-change c.args.limit c.args.number false c.table-table.result.schema c.table-table.result.rows (put_lines c.table-table.result.schema (rows_put c.args.rows)) c.in_ok-made.made c.in_ok-change.change c.in_ok-made.ensures (c.in_ok-change.ensures ∙ ap (λ n. change_made c.args.limit c.args.number n c.in_ok-made.made) c.rows.ensures.number))
