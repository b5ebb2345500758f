use Rattle.std.proofs.Common.{◌-◌, length, sym, ◌∙◌, arith}
use Rattle.tl_agg.proofs.GroupedLemmas.{last_group}
use Rattle.tl_agg.proofs.seams.ends_with_group.Goals as goal

pub returns-in-len1-up : goal.returns-in-len1-up
returns-in-len1-up c = c.same_group.ensures ∙ sym (last_group c.args.runs.now c.args.group.now c.last-item.result (length c.args.runs.now - 1) (omega arith) c.last-item.is)
