use Rattle.tl_batch.proofs.SmallLemmas.{small_added}
use Rattle.tl_batch.proofs.small_keys.add_at.Goals as goal

pub returns : goal.returns
returns c = small_added c.args.ids.now c.args.place c.requires _ c.in-Some.more c.args.id c.in-Some.ensures
