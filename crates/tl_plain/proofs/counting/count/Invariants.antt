use Rattle.std.proofs.Common.{◌≡◌, ◌≤◌, length, take}
use Rattle.tl_plain.specs.Choosing.{lent, there_at}
use Rattle.tl_plain.proofs.counting.count.Given as goal

abbrev pub invariant-loop-row : goal.invariant-loop-row
invariant-loop-row l = record {
  few : l.count ≤ l.row-index;
  there : l.count ≡ length (there_at l.span (take l.row-index (lent l.rows)) l.moment);
}
