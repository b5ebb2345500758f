use Rattle.std.proofs.Common.{sym, ◌∙◌}
use Rattle.tl_batch.proofs.UntimedLines.{fault_by_keys, closes_by_keys}
use Rattle.tl_batch.proofs.untimed.closes_of_keys.Goals as goal

pub returns-in-Some-clause-made : goal.returns-in-Some-clause-made
returns-in-Some-clause-made c = λ lines same. sym (fault_by_keys c.args.table.now.schema c.args.removes c.args.table.now.rows lines c.args.keys.now c.in_ok-found.found c.requires.untimed same (c.in_ok-found.ensures c.args.table.now.schema.key c.args.table.now.rows c.index-index.ensures.ids)) ∙ c.in-Some.is

pub returns-clause-made : goal.returns-clause-made
returns-clause-made c = λ lines same. (
  sym (fault_by_keys c.args.table.now.schema c.args.removes c.args.table.now.rows lines c.args.keys.now c.in_ok-found.found c.requires.untimed same (c.in_ok-found.ensures c.args.table.now.schema.key c.args.table.now.rows c.index-index.ensures.ids)) ∙ c.in_default.is,
  closes_by_keys c.args.table.now.schema c.args.table.now.rows lines c.args.keys.now c.index-index.result.now c.in_ok-closes.closes c.requires.untimed same c.index-index.ensures.ids c.in_ok-closes.ensures.ascending c.in_ok-closes.ensures.members,
)
