use Rattle.std.proofs.Common.{length}
use Rattle.tl_csv.proofs.layouts.+are_places_from.Given as goal

abbrev pub decreases-are_places_from : goal.decreases-are_places_from
decreases-are_places_from l = length l.places.now
