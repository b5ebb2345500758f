use Rattle.std.proofs.Common.{◌≡◌, ◌≤◌, length, take}
use Rattle.tl_query.specs.Aggregates.{numbers_of}
use Rattle.tl_plain.specs.Choosing.{lent, there_at}
use Rattle.tl_plain.proofs.counting.numbers.Given as goal

abbrev pub invariant-loop-row : goal.invariant-loop-row
invariant-loop-row l = record {
  few : length l.numbers.items ≤ l.row-index;
  given : l.numbers.items ≡ numbers_of l.column (there_at l.span (take l.row-index (lent l.rows)) l.moment);
}
