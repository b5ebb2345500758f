use Rattle.std.proofs.Common.{◌≡◌, map, take}
use Rattle.std.specs.List.{enumerate_from}
use Rattle.tl_query.specs.Checking.{first_of, twice_at}
use Rattle.tl_check.proofs.creates.twice_fault.Given as goal

abbrev pub invariant-loop-place : goal.invariant-loop-place
invariant-loop-place l = l.first ≡ first_of (map (twice_at l.columns) (enumerate_from 0 (take l.place l.columns)))
