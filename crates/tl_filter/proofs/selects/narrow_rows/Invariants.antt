use Rattle.std.proofs.Common.{◌≡◌, ℕ, ◌+◌, ◌-◌, ◌*◌, ◌/◌, ◌<◌, ◌≤◌, ◌&&◌, length}
use Rattle.tl_types.specs.History.{database_of}
use Rattle.tl_bits.specs.Sets.{is_member}
use Rattle.tl_filter.specs.Selecting.{rows_that_pass, tests_in}
use Rattle.tl_filter.specs.Words.{is_asked, word_cost}
use Rattle.tl_filter.proofs.selects.narrow_rows.Given as goal

abbrev pub invariant-loop-first : goal.invariant-loop-first
invariant-loop-first g l = record {
  within : l.first ≤ l.word_count;
  long : length l.set ≡ length l.initial.set;
  told : (row : ℕ) → row / 64 < l.first
      → is_member l.set row ≡ (is_asked l.whole l.initial.set row && is_member (rows_that_pass (database_of l.store) l.table l.pred) row);
  kept : (row : ℕ) → l.first ≤ row / 64 → is_asked l.whole l.set row ≡ is_asked l.whole l.initial.set row;
  steps : l.steps ≤ l.initial.steps + tests_in l.pred * l.first + word_cost l.whole * l.first;
}

abbrev pub decreases-loop-first : goal.decreases-loop-first
decreases-loop-first g l = l.word_count - l.first
