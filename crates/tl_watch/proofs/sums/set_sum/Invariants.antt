use Rattle.std.proofs.Common.{◌+◌, ◌*◌, ◌^◌, ◌≤◌, pos}
use Rattle.std.specs.Prelude.{neg_ℤ, ◌≤ℤ◌}
use Rattle.tl_types.specs.History.{database_of, rows_of}
use Rattle.tl_watch.specs.Sums.{AddsUp, pieces_before, numbers_in}
use Rattle.tl_watch.proofs.sums.set_sum.Given as goal

abbrev pub invariant-loop-i : goal.invariant-loop-i
invariant-loop-i g l = record {
  adds : AddsUp (numbers_in l.column (pieces_before l.i l.set) (pieces_before l.i (rows_of (database_of l.store) l.table))) l.sum;
  low : neg_ℤ (pos (2 ^ 96)) ≤ℤ l.sum;
  high : l.sum ≤ℤ pos (2 ^ 96);
  steps : l.steps ≤ l.initial.steps + 2 * l.i;
}
