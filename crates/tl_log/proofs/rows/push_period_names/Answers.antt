use Rattle.std.proofs.Common.{rules}
use Rattle.tl_log.proofs.RowLemmas.{names_put}
use Rattle.tl_log.proofs.rows.push_period_names.Goals as goal

pub returns-clause-row : goal.returns-clause-row
returns-clause-row c =
    names_put c.args.rows.now.row c.push_name.new.rows.row c.push_name-2.new.rows.row c.args.schema.now.valid
    (search rules) c.in_ok-push_name.ensures.row c.in_ok-push_name-2.ensures.row
