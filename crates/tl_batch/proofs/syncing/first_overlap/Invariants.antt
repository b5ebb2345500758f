use Rattle.std.proofs.Common.{map, take}
use Rattle.tl_batch.specs.Covers.{Full}
use Rattle.tl_batch.proofs.OverlapFaults.{HoldEarlier}
use Rattle.tl_batch.proofs.syncing.first_overlap.Given as goal

abbrev pub invariant-loop-i : goal.invariant-loop-i
invariant-loop-i l = record {
  held : HoldEarlier l.place l.earlier l.lines l.i;
  full : Full (map (λ o. o.period) (take l.i l.lines));
}
