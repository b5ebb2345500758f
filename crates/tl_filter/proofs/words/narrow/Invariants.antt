use Rattle.std.proofs.Common.{◌≡◌, ℕ, ◌+◌, ◌<◌, ◌≤◌, length, get_or}
use Rattle.tl_filter.specs.Words.{IsNarrowed}
use Rattle.tl_filter.proofs.words.narrow.Given as goal

abbrev pub invariant-loop-i : goal.invariant-loop-i
invariant-loop-i g l = record {
  long : length l.words ≡ length l.initial.words;
  each : (j : ℕ) → j < l.i → IsNarrowed l.test (l.first + j) (get_or l.initial.words j 0) (get_or l.words j 0);
  kept : (j : ℕ) → l.i ≤ j → get_or l.words j 0 ≡ get_or l.initial.words j 0;
  steps : l.steps ≤ l.initial.steps + l.i;
}
