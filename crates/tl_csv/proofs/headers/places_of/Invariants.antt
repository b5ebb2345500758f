use Rattle.std.proofs.Common.{◌≡◌, length}
use Rattle.csv.specs.Records.{fields_of}
use Rattle.tl_csv.specs.Faults.{each_from}
use Rattle.tl_csv.specs.Header.{place_at}
use Rattle.tl_csv.proofs.FaultLemmas.{behind}
use Rattle.tl_csv.proofs.headers.places_of.Given as goal

abbrev pub invariant-columns : goal.invariant-columns
invariant-columns l =
    behind l.places (each_from (place_at (fields_of l.header)) (length l.places) l.rest)
    ≡ each_from (place_at (fields_of l.header)) 0 l.columns

abbrev pub decreases-columns : goal.decreases-columns
decreases-columns l = length l.rest
