use Rattle.tl_batch.proofs.FreshKeys.{risen_start}
use Rattle.tl_batch.proofs.untimed.rise.Goals as goal

pub loop-key-init : goal.loop-key-init
loop-key-init c = risen_start c.args.keys.now c.first-item.result c.in-len1-up.len_at_least c.first-item.is
