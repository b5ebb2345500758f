use Rattle.std.proofs.Common.{◌≡◌, take}
use Rattle.std.specs.List.{flat_map}
use Rattle.tl_exec.proofs.joins.put_behind.Given as goal

abbrev pub invariant-loop-part : goal.invariant-loop-part
invariant-loop-part l = l.whole.items ≡ flat_map (λ part. part) (take l.part-index l.part-items)
