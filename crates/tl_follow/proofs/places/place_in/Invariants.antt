-- The places so far are of other versions.
use Rattle.std.proofs.Common.{◌≡◌, drop}
use Rattle.tl_follow.specs.Places.{place_in}
use Rattle.tl_follow.proofs.places.place_in.Given as goal

abbrev pub invariant-loop-place : goal.invariant-loop-place
invariant-loop-place l = place_in l.version (drop l.place-index l.places) ≡ place_in l.version l.places
