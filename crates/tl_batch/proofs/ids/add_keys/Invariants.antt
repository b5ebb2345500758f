use Rattle.std.proofs.Common.{◌≡◌, ℕ, ◌||◌}
use Rattle.tl_types.specs.History.{has_id}
use Rattle.tl_batch.proofs.ids.add_keys.Given as goal

abbrev pub invariant-loop-id : goal.invariant-loop-id
invariant-loop-id l = (n : ℕ) → (has_id l.id-iterator n || has_id l.list n) ≡ (has_id l.further.keys n || has_id l.fn.list n)
