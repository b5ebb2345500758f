use Rattle.std.proofs.Common.{◌≡◌, ◌||◌, ℕ, take}
use Rattle.std.specs.List.{list_any}
use Rattle.tl_types.specs.History.{has_id}
use Rattle.tl_batch.proofs.small_keys.add_all_sets.Given as goal

abbrev pub invariant-loop-set : goal.invariant-loop-set
invariant-loop-set l = (n : ℕ) → has_id l.list n ≡ (list_any (λ set. has_id set n) (take l.set-index l.sets) || has_id l.fn.list n)
