use Rattle.std.proofs.Common.{◌≡◌, ℕ, true, subst}
use Rattle.tl_types.specs.declared.cells.Cell.{Cell}
use Rattle.tl_batch.specs.KeyIndex.{IdsByKey, any_row, has_row}
use Rattle.tl_batch.proofs.AllIdsLemmas.{key_of_row}
use Rattle.tl_batch.proofs.key_index.KeyIndex.add_all_to.Goals as goal

pub returns-clause-keys : goal.returns-clause-keys
returns-clause-keys c =
    subst (λ (ids : IdsByKey). (n : ℕ) → any_row ids n ≡ true → (x : Cell) × (has_row ids x n ≡ true)) c.self.view_is
    (λ n. key_of_row (record { small = c.self.inside.small; few = c.self.inside.few; further = c.self.inside.further }) n (c.in_ok-add_all_to.ensures.keys n) (c.in_ok-add_all_to-2.ensures.keys n) (c.in_ok-add_all_to-3.ensures.keys n))
