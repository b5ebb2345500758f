use Rattle.tl_batch.proofs.KeyIndexLemmas.{id_pushed}
use Rattle.tl_batch.proofs.id_list.IdList.add.Goals as goal

pub returns : goal.returns
returns c = id_pushed c.args.id c.self.inside.ids.items c.push.new.self.items c.args.self.now c.in_ok-push.ensures.items c.self.view_is
