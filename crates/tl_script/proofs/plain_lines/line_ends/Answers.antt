use Rattle.tl_script.proofs.PlainLemmas.{run_counted}
use Rattle.tl_script.proofs.plain_lines.line_ends.Goals as goal

pub loop-rest-preserved : goal.loop-rest-preserved
loop-rest-preserved c = run_counted c.args.bytes.now c.loop-rest.rest.now c.split_at.result.0.now c.split_at.result.1.now c.loop-rest.count c.few_line_ends.result c.loop-rest.invariant.0 c.loop-rest.invariant.1 c.split_at.ensures.front c.split_at.ensures.back c.few_line_ends.ensures
