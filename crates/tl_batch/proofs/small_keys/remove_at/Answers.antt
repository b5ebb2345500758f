use Rattle.tl_batch.proofs.SmallLemmas.{small_removed}
use Rattle.tl_batch.proofs.small_keys.remove_at.Goals as goal

pub returns : goal.returns
returns c = small_removed c.args.ids.now c.args.place c.requires _ c.without.result c.args.id c.without.ensures
