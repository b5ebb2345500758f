use Rattle.std.proofs.Common.{◌-◌, length, sym, ◌∙◌, arith}
use Rattle.tl_types.proofs.RunLemmas.{last_value}
use Rattle.tl_types.proofs.runs.ends_with_value.Goals as goal

pub returns-in-len1-up : goal.returns-in-len1-up
returns-in-len1-up c = c.same_field.ensures ∙ sym (last_value c.args.runs.now c.args.value.now c.last-item.result (length c.args.runs.now - 1) (omega arith) c.last-item.is)
