use Rattle.std.proofs.Common.{◌≡◌, ◌-◌, ◌++◌, drop, length}
use Rattle.std.specs.List.{flat_map}
use Rattle.tl_csv.proofs.sources.advance.Given as goal

abbrev pub invariant-pieces : goal.invariant-pieces
invariant-pieces l = l.piece ++ flat_map (λ p. p.now) (drop l.taken l.pieces) ≡ l.front ++ flat_map (λ p. p.now) (drop l.next l.pieces)

abbrev pub decreases-pieces : goal.decreases-pieces
decreases-pieces l = length l.pieces - l.taken
