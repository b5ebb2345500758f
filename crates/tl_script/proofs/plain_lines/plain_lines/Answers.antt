use Rattle.tl_script.proofs.PlainLemmas.{are_plain}
use Rattle.tl_script.proofs.plain_lines.plain_lines.Goals as goal

pub returns : goal.returns
returns c = are_plain c.args.bytes.now c.before_backslash.result.now c.whole_lines.result.now c.before_backslash.ensures.front c.before_backslash.ensures.plain c.whole_lines.ensures.front c.whole_lines.ensures.whole
