use Rattle.std.proofs.Common.{◌≡◌, ◌<◌, ◌-◌, ℕ, ℤ, ◌≤ℤ◌, Some, length}
use Rattle.std.specs.Prelude.{slice_get}
use Rattle.tl_running.specs.Heaps.{MovesNear}
use Rattle.tl_running.proofs.pile.move_near.Given as goal

abbrev pub invariant-numbers : goal.invariant-numbers
invariant-numbers l = record {
  moves : MovesNear l.initial.near l.initial.far l.near l.far;
  seen : (k : ℕ) (x : ℤ) → k < l.i → slice_get l.far.numbers k ≡ Some x → x ≤ℤ l.bound;
}

abbrev pub decreases-numbers : goal.decreases-numbers
decreases-numbers l = length l.far.numbers - l.i
