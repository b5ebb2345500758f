use Rattle.tl_batch.proofs.FewLemmas.{removed_text}
use Rattle.tl_batch.proofs.few_by_key.FewByKey.remove.Goals as goal

pub returns-in-Text : goal.returns-in-Text
returns-in-Text c = removed_text c.self.inside.numbers.entries c.self.inside.texts.entries c.remove_from-in-Text.new.few.entries c.args.self.now c.self.view_is c.args.key.now _ c.args.id c.in-Text.is c.remove_from-in-Text.ensures
