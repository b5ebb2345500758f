use Rattle.std.proofs.Common.{refl}
use Rattle.tl_batch.proofs.KeyIndexLemmas.{id_added}
use Rattle.tl_batch.proofs.ids.insert_id.Goals as goal

pub returns-clause-ok : goal.returns-clause-ok
returns-clause-ok c = id_added c.args.id c.args.further.now.keys c.args.further.now.keys c.insert.new.self.keys c.in_ok-insert.ensures.updates.0 refl
