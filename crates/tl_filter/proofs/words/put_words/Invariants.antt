use Rattle.std.proofs.Common.{◌≡◌, ℕ, ◌+◌, ◌-◌, ◌/◌, ◌%◌, ◌<◌, ◌≤◌, length, get_or}
use Rattle.tl_lanes.specs.Masks.{is_bit}
use Rattle.tl_bits.specs.Sets.{is_member}
use Rattle.tl_filter.proofs.words.put_words.Given as goal

abbrev pub invariant-loop-i : goal.invariant-loop-i
invariant-loop-i l = record {
  rows : length l.set ≡ length l.initial.set;
  kept : (row : ℕ) → row / 64 < l.first → is_member l.set row ≡ is_member l.initial.set row;
  behind : (row : ℕ) → l.first + l.i ≤ row / 64 → is_member l.set row ≡ is_member l.initial.set row;
  put : (row : ℕ) → l.first ≤ row / 64 → row / 64 < l.first + l.i → is_member l.set row ≡ is_bit (get_or l.words (row / 64 - l.first) 0) (row % 64);
}
