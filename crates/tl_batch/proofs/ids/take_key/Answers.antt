use Rattle.std.proofs.Common.{refl}
use Rattle.tl_batch.proofs.KeyIndexLemmas.{id_removed}
use Rattle.tl_batch.proofs.ids.take_key.Goals as goal

pub returns : goal.returns
returns c = id_removed c.args.id c.args.further.now.keys c.args.further.now.keys c.remove.new.self.keys c.remove.ensures.updates.0 refl
