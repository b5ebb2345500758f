use Rattle.std.proofs.Common.{◌≡◌, ◌||◌, ℕ, length}
use Rattle.tl_types.specs.History.{has_id}
use Rattle.tl_batch.specs.KeyIndex.{any_further}
use Rattle.tl_batch.proofs.further_ids.FurtherIds.add_all_to.Given as goal

abbrev pub invariant-keys : goal.invariant-keys
invariant-keys l = (n : ℕ) → (any_further l.entries n || has_id l.list n) ≡ (any_further l.self n || has_id l.fn.list n)

abbrev pub decreases-keys : goal.decreases-keys
decreases-keys l = length l.entries
