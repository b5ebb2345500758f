use Rattle.std.proofs.Common.{◌≡◌, ℤ, ◌+◌, ◌≤◌, length}
use Rattle.tl_running.specs.Heaps.{AreBelow, count_in}
use Rattle.tl_running.proofs.heaps.settle.Given as goal

abbrev pub invariant-tops : goal.invariant-tops
invariant-tops l = record {
  within : AreBelow l.came.numbers l.gone.numbers;
  room : l.gone.room ≡ l.initial.gone.room;
  long : length l.came.numbers ≤ length l.initial.came.numbers;
  same : (v : ℤ) → count_in v l.came.numbers + count_in v l.initial.gone.numbers ≡ count_in v l.initial.came.numbers + count_in v l.gone.numbers;
}

abbrev pub decreases-tops : goal.decreases-tops
decreases-tops l = length l.gone.numbers
