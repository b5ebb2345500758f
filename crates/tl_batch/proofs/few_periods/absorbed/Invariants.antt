use Rattle.std.proofs.Common.{◌≡◌, ℤ, ◌<ℤ◌, ◌||◌, length}
use Rattle.tl_batch.specs.Covers.{Beyond, before_all, is_between, is_covered}
use Rattle.tl_batch.proofs.few_periods.absorbed.Given as goal

abbrev pub invariant-absorbing : goal.invariant-absorbing
invariant-absorbing l = record {
  beyond : Beyond before_all l.stretches.items;
  order : l.from <ℤ l.to;
  covers : (t : ℤ) → (is_covered t l.stretches.items || is_between t l.from l.to) ≡ (is_covered t l.fn.stretches.items || is_between t l.fn.period.from l.fn.period.to);
}

abbrev pub decreases-absorbing : goal.decreases-absorbing
decreases-absorbing l = length l.stretches.items
