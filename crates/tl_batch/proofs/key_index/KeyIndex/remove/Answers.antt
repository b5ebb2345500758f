use Rattle.tl_batch.proofs.KeyIndexLemmas.{index_less}
use Rattle.tl_batch.proofs.key_index.KeyIndex.remove.Goals as goal

pub returns : goal.returns
returns c = index_less c.self.inside.small c.remove_key.new.self c.self.inside.few c.remove.new.self c.self.inside.further c.remove-2.new.self c.args.self.now c.args.key.now c.args.id c.self.view_is c.remove_key.ensures c.remove.ensures c.remove-2.ensures
