use Rattle.std.proofs.Common.{◌≡◌, ◌+◌, ◌≤◌, ◌<◌, length}
use Rattle.std.specs.Prelude.{slice_index_or}
use Rattle.tl_range.specs.Dividing.{Follow, BeginInside}
use Rattle.tl_range.proofs.dividing.divide.Given as goal

abbrev pub invariant-rest : goal.invariant-rest
invariant-rest l = record {
  number : length l.pieces.items + l.left ≡ l.count;
  some : 1 ≤ l.left;
  room : l.at + l.left + 1 ≤ length l.bounds;
  behind : 0 < length l.pieces.items → 0 < l.at;
  cover : Follow (slice_index_or l.bounds 0 0) (slice_index_or l.bounds l.at 0) l.pieces.items;
  begin : BeginInside l.bounds l.pieces.items;
}

abbrev pub decreases-rest : goal.decreases-rest
decreases-rest l = l.left
