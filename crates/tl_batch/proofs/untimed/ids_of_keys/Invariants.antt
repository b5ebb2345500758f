use Rattle.std.proofs.Common.{◌≡◌, ℕ, take}
use Rattle.std.specs.List.{list_any}
use Rattle.tl_types.specs.History.{has_id}
use Rattle.tl_batch.specs.KeyIndex.{has_row}
use Rattle.tl_batch.proofs.untimed.ids_of_keys.Given as goal

abbrev pub invariant-loop-key : goal.invariant-loop-key
invariant-loop-key l = (n : ℕ) → has_id l.ids n ≡ list_any (λ k. has_row l.index k.now n) (take l.key-index l.keys)
