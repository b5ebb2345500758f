use Rattle.tl_script.proofs.PlainLemmas.{plain_before, plain_all}
use Rattle.tl_script.proofs.plain_lines.before_backslash.Goals as goal

pub returns-in-Some-clause-plain : goal.returns-in-Some-clause-plain
returns-in-Some-clause-plain c = plain_before c.args.bytes.now c.split_at.result.0.now c.in-Some.at c.split_at.ensures.front c.in-Some.ensures.0

pub returns-in-None-clause-plain : goal.returns-in-None-clause-plain
returns-in-None-clause-plain c = plain_all c.args.bytes.now c.in-None.ensures
