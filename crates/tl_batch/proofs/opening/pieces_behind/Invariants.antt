use Rattle.std.proofs.Common.{◌≡◌, ◌≤◌, length, reverse, drop}
use Rattle.tl_types.specs.Resolving.{put_lines}
use Rattle.tl_batch.specs.Pieces.{put_pieces}
use Rattle.tl_batch.specs.Covers.{HoldLines}
use Rattle.tl_batch.proofs.opening.pieces_behind.Given as goal

abbrev pub invariant-behind : goal.invariant-behind
invariant-behind l = record {
  within : l.i ≤ length l.lines;
  back : reverse l.back.items ≡ put_pieces l.schema (put_lines l.schema (drop l.i l.lines));
  held : HoldLines l.periods (put_lines l.schema (drop l.i l.lines));
}

abbrev pub decreases-behind : goal.decreases-behind
decreases-behind l = l.i
