use Rattle.std.proofs.Common.{◌≡◌, ◌-◌, length, drop}
use Rattle.csv.specs.Records.{fields_of}
use Rattle.std.specs.List.{position_from}
use Rattle.tl_types.specs.Names.{same_bytes}
use Rattle.tl_csv.specs.Header.{place_of}
use Rattle.tl_csv.proofs.headers.place_of.Given as goal

abbrev pub invariant-loop-named : goal.invariant-loop-named
invariant-loop-named l = position_from (λ field. same_bytes field l.name) l.i (drop l.i (fields_of l.header)) ≡ place_of l.name (fields_of l.header)

abbrev pub decreases-loop-named : goal.decreases-loop-named
decreases-loop-named l = length (fields_of l.header) - l.i
