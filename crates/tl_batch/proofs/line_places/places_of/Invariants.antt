use Rattle.std.proofs.Common.{take}
use Rattle.tl_batch.specs.Syncing.{ArePlaced}
use Rattle.tl_batch.proofs.line_places.places_of.Given as goal

abbrev pub invariant-loop-i : goal.invariant-loop-i
invariant-loop-i l = ArePlaced l.place (take l.i l.lines) l.places
