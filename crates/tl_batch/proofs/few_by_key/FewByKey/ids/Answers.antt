use Rattle.std.proofs.Common.{sym, ap, ◌∙◌}
use Rattle.tl_batch.specs.KeyIndex.{has_few}
use Rattle.tl_batch.proofs.few_by_key.FewByKey.ids.Goals as goal

pub returns-in-Text : goal.returns-in-Text
returns-in-Text c = λ n. c.few_of-in-Text.ensures n ∙ (ap (λ k. has_few (record { numbers = c.self.inside.numbers.entries; texts = c.self.inside.texts.entries }) k n) (sym c.in-Text.is) ∙ ap (λ f. has_few f c.args.key.now n) c.self.view_is)
