use Rattle.std.proofs.Common.{◌≡◌, ◌||◌, ℕ, length}
use Rattle.tl_types.specs.History.{has_id}
use Rattle.tl_batch.specs.KeyIndex.{any_at}
use Rattle.tl_batch.proofs.few_by_key.add_all_of.Given as goal

abbrev pub invariant-keys : goal.invariant-keys
invariant-keys g l = (n : ℕ) → (any_at l.entries n || has_id l.list n) ≡ (any_at l.few.entries n || has_id l.fn.list n)

abbrev pub decreases-keys : goal.decreases-keys
decreases-keys g l = length l.entries
