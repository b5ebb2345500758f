use Rattle.std.proofs.Common.{◌≡◌, ℕ, ◌+◌, ◌*◌, ◌/◌, ◌<◌, ◌≤◌, ◌&&◌, length}
use Rattle.tl_bits.specs.Sets.{is_member}
use Rattle.tl_exec.proofs.sets.meet.Given as goal

abbrev pub invariant-loop-i : goal.invariant-loop-i
invariant-loop-i g l = record {
  rows : length l.set ≡ length l.initial.set;
  met : (row : ℕ) → row / 64 < l.i → is_member l.set row ≡ (is_member l.initial.set row && is_member l.other row);
  kept : (row : ℕ) → l.i ≤ row / 64 → is_member l.set row ≡ is_member l.initial.set row;
  steps : l.steps ≡ l.initial.steps + 2 * l.i;
}
