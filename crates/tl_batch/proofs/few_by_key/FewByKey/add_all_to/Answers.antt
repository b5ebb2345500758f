use Rattle.std.proofs.Common.{◌≡◌, ℕ, true, subst}
use Rattle.tl_types.specs.declared.cells.Cell.{Cell}
use Rattle.tl_batch.specs.KeyIndex.{FewIdsByKey, any_few, has_few}
use Rattle.tl_batch.proofs.AllIdsLemmas.{key_of_either}
use Rattle.tl_batch.proofs.few_by_key.FewByKey.add_all_to.Goals as goal

pub returns-clause-keys : goal.returns-clause-keys
returns-clause-keys c =
    subst (λ (few : FewIdsByKey). (n : ℕ) → any_few few n ≡ true → (x : Cell) × (has_few few x n ≡ true)) c.self.view_is
    (λ n. key_of_either (record { numbers = c.self.inside.numbers.entries; texts = c.self.inside.texts.entries }) n (c.in_ok-add_all_of.ensures.keys n) (c.in_ok-add_all_of-2.ensures.keys n))
