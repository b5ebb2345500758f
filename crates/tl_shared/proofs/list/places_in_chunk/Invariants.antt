use Rattle.std.proofs.Common.{◌≡◌, ◌/◌, take, All}
use Rattle.tl_shared.proofs.list.places_in_chunk.Given as goal

abbrev pub invariant-loop-count : goal.invariant-loop-count
invariant-loop-count g l = All (λ place. place / g.row.SIZE ≡ l.i) (take l.count l.places)
