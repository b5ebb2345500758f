use Rattle.std.proofs.Common.{true, ap, ◌∙◌}
use Rattle.tl_types.specs.History.{database_of}
use Rattle.tl_types.specs.Resolving.{removal_lines}
use Rattle.tl_batch.specs.Made.{change_made}
use Rattle.tl_batch.proofs.CommitLemmas.{made_at, made-change, made-ascend, made-few, rows-few}
use Rattle.tl_batch.proofs.resolving.keys_change.Goals as goal

pub change_within-requires-clause-ascending : goal.change_within-requires-clause-ascending
change_within-requires-clause-ascending c = made-ascend true c.table-table.result.schema c.table-table.result.rows (removal_lines c.args.lines.now) c.in_ok-made.made c.in_ok-made.ensures

pub change_within-requires-clause-few : goal.change_within-requires-clause-few
change_within-requires-clause-few c = made-few true c.table-table.result.schema c.table-table.result.rows (removal_lines c.args.lines.now) c.in_ok-made.made c.in_ok-made.ensures (rows-few c.table-table.result.rows c.rows.result c.rows.ensures.number c.rows.ensures.few)

pub returns : goal.returns
returns c = made_at (database_of c.args.tables.now.commits).tables c.args.number c.args.limit true c.table-table.result (λ schema. removal_lines c.args.lines.now) c.in_ok-change.change c.table-table.ensures
    (made-change c.args.limit c.args.number true c.table-table.result.schema c.table-table.result.rows (removal_lines c.args.lines.now) c.in_ok-made.made c.in_ok-change.change c.in_ok-made.ensures (c.in_ok-change.ensures ∙ ap (λ n. change_made c.args.limit c.args.number n c.in_ok-made.made) c.rows.ensures.number))
