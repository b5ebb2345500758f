use Rattle.std.proofs.Common.{◌∙◌}
use Rattle.tl_batch.proofs.RowChangesLemmas.{closes_are}
use Rattle.tl_batch.proofs.changing.rows_to_close.Goals as goal

pub returns : goal.returns
returns g c = λ lines held. closes_are c.args.table.now.schema lines c.args.table.now.rows c.listed-closes.result c.listed-closes.ensures.ascending (λ n. c.listed-closes.ensures.members n ∙ c.in_ok-affected.ensures lines held n)
