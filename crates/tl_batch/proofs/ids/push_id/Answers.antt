use Rattle.std.proofs.Common.{refl}
use Rattle.tl_batch.proofs.KeyIndexLemmas.{id_pushed}
use Rattle.tl_batch.proofs.ids.push_id.Goals as goal

pub returns-clause-ok : goal.returns-clause-ok
returns-clause-ok c = id_pushed c.args.id c.args.few.now.items c.push.new.self.items c.args.few.now.items c.in_ok-push.ensures.items refl
