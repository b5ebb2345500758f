use Rattle.tl_batch.proofs.FewLemmas.{text_reserved}
use Rattle.tl_batch.proofs.few_by_key.FewByKey.reserve.Goals as goal

pub returns-in_ok-reserve-in-Text : goal.returns-in_ok-reserve-in-Text
returns-in_ok-reserve-in-Text c = text_reserved c.self.inside.numbers.entries c.self.inside.texts.entries c.reserve-in-Text.new.self.entries c.args.self.now c.self.view_is c.reserve-in-Text.ensures.entries.2
