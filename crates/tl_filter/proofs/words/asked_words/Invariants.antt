use Rattle.std.proofs.Common.{◌≡◌, ℕ, ◌+◌, ◌*◌, ◌<◌, ◌≤◌, length, get_or}
use Rattle.tl_lanes.specs.Masks.{is_bit}
use Rattle.tl_filter.specs.Words.{is_asked, word_cost}
use Rattle.tl_filter.proofs.words.asked_words.Given as goal

abbrev pub invariant-loop-i : goal.invariant-loop-i
invariant-loop-i g l = record {
  long : length l.words ≡ length l.initial.words;
  each : (j : ℕ) → j < l.i → (k : ℕ) → k < 64 → is_bit (get_or l.words j 0) k ≡ is_asked l.whole l.set (64 * (l.first + j) + k);
  steps : l.steps ≤ l.initial.steps + word_cost l.whole * l.i;
}
