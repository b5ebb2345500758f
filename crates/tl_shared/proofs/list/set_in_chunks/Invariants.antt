use Rattle.std.proofs.Common.{◌≡◌, ◌<◌, length, All}
use Rattle.tl_shared.specs.Chunks.{flatten, IsChunked, set_each}
use Rattle.tl_shared.proofs.list.set_in_chunks.Given as goal

abbrev pub invariant-loop-rest : goal.invariant-loop-rest
invariant-loop-rest g l = record {
  list : set_each l.item (flatten l.chunks) l.rest ≡ set_each l.item (flatten l.fn.chunks) l.places;
  chunked : IsChunked g.row.SIZE l.chunks;
  small : All (λ place. place < length (flatten l.chunks)) l.rest;
}

abbrev pub decreases-loop-rest : goal.decreases-loop-rest
decreases-loop-rest g l = length l.rest
