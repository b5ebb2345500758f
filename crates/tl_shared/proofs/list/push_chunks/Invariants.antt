use Rattle.std.proofs.Common.{◌≡◌, ◌<◌, ◌++◌, length}
use Rattle.tl_shared.specs.Chunks.{flatten, AreFull, IsChunked}
use Rattle.tl_shared.proofs.list.push_chunks.Given as goal

abbrev pub invariant-loop-rest : goal.invariant-loop-rest
invariant-loop-rest g l = record {
  list : flatten l.chunks ++ l.rest ≡ flatten l.fn.chunks ++ l.fn.items;
  chunked : IsChunked g.row.SIZE l.chunks;
  full : 0 < length l.rest → AreFull g.row.SIZE l.chunks;
}

abbrev pub decreases-loop-rest : goal.decreases-loop-rest
decreases-loop-rest g l = length l.rest
