use Rattle.std.proofs.Common.{◌≡◌, ℕ, ◌+◌, ◌-◌, ◌*◌, ◌/◌, ◌<◌, ◌≤◌, false, length}
use Rattle.tl_lanes.specs.Masks.{bit_of}
use Rattle.tl_bits.proofs.row_sets.next_bit.Given as goal

abbrev pub invariant-words : goal.invariant-words
invariant-words g l = record {
  low : l.low < 64;
  reached : l.from ≤ 64 * l.at + l.low;
  behind : (j : ℕ) → l.from ≤ j → j < 64 * l.at + l.low → bit_of l.words j ≡ false;
  begun : l.from / 64 ≤ l.at;
  ahead : l.at + (length l.words - l.at) ≡ l.from / 64 + (length l.words - l.from / 64);
  steps : l.steps + l.from / 64 ≡ l.initial.steps + l.at;
}

abbrev pub decreases-words : goal.decreases-words
decreases-words g l = length l.words - l.at
