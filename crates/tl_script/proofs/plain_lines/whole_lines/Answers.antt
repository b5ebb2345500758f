use Rattle.tl_script.proofs.PlainLemmas.{whole_to}
use Rattle.tl_script.proofs.plain_lines.whole_lines.Goals as goal

pub returns-in-Some-clause-whole : goal.returns-in-Some-clause-whole
returns-in-Some-clause-whole c = whole_to c.args.bytes.now c.split_at.result.0.now c.in-Some.at c.split_at.ensures.front c.in-Some.ensures.0.high c.in-Some.ensures.1
