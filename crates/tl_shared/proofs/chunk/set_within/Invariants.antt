use Rattle.std.proofs.Common.{◌≡◌, take}
use Rattle.tl_shared.specs.Chunks.{set_within}
use Rattle.tl_shared.proofs.chunk.set_within.Given as goal

abbrev pub invariant-loop-place : goal.invariant-loop-place
invariant-loop-place g l = l.items.items ≡ set_within g.row.SIZE l.item l.fn.items.items (take l.place-index l.places)
