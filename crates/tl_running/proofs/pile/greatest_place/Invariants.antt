use Rattle.std.proofs.Common.{◌<◌, ◌≤◌, ◌-◌, length}
use Rattle.tl_running.specs.Heaps.{AreBeforeUpTo}
use Rattle.tl_running.proofs.pile.greatest_place.Given as goal

abbrev pub invariant-numbers : goal.invariant-numbers
invariant-numbers l = record {
  within : l.place < length l.far.numbers;
  begun : l.i ≤ length l.far.numbers;
  seen : AreBeforeUpTo l.far.numbers l.i l.place;
}

abbrev pub decreases-numbers : goal.decreases-numbers
decreases-numbers l = length l.far.numbers - l.i
