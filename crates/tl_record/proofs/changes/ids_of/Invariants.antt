use Rattle.std.proofs.Common.{◌≡◌, ◌+◌, ◌≤◌, ◌^◌}
use Rattle.tl_record.specs.Reading.{prepended, ascending}
use Rattle.tl_record.proofs.changes.ids_of.Given as goal

abbrev pub decreases-loop-left : goal.decreases-loop-left
decreases-loop-left l = l.left

abbrev pub invariant-loop-left : goal.invariant-loop-left
invariant-loop-left l =
    (prepended l.ids.items (ascending l.left l.low l.rest) ≡ ascending l.count 0 l.bytes)
    × (l.low + l.left ≤ 2 ^ 32)
