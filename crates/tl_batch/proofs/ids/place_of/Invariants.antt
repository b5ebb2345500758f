use Rattle.std.proofs.Common.{◌≡◌, false, take}
use Rattle.tl_types.specs.History.{has_id}
use Rattle.tl_batch.proofs.ids.place_of.Given as goal

abbrev pub invariant-loop-i : goal.invariant-loop-i
invariant-loop-i l = has_id (take l.i l.few) l.id ≡ false
