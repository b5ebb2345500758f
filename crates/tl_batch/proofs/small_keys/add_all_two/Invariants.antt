use Rattle.std.proofs.Common.{◌≡◌, ◌||◌, ℕ, take}
use Rattle.std.specs.List.{list_any}
use Rattle.tl_types.specs.History.{has_id}
use Rattle.tl_batch.specs.KeyIndex.{is_of_two}
use Rattle.tl_batch.proofs.small_keys.add_all_two.Given as goal

abbrev pub invariant-loop-two : goal.invariant-loop-two
invariant-loop-two l = (n : ℕ) → has_id l.list n ≡ (list_any (λ two. is_of_two two n) (take l.two-index l.ids) || has_id l.fn.list n)
