use Rattle.std.proofs.Common.{◌-◌, length, sym, ◌∙◌, arith}
use Rattle.tl_running.proofs.TouchLemmas.{last_tells}
use Rattle.tl_running.proofs.touching.last_goes_on.Goals as goal

pub returns-in-len1-up : goal.returns-in-len1-up
returns-in-len1-up c = c.goes_on_as.ensures ∙ sym (last_tells c.args.runs.now c.args.stretch.now c.last-item.result (length c.args.runs.now - 1) (omega arith) c.last-item.is)
