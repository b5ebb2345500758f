use Rattle.std.proofs.Common.{◌≤ℤ◌, ◌<ℤ◌, take, All}
use Rattle.tl_plain.specs.Choosing.{IsSteady, lent}
use Rattle.tl_plain.proofs.times.next_change.Given as goal

abbrev pub invariant-loop-row : goal.invariant-loop-row
invariant-loop-row l = record {
  after : l.at <ℤ l.next;
  within : l.next ≤ℤ l.end;
  quiet : All (IsSteady l.span l.at l.next) (take l.row-index (lent l.rows));
}
