use Rattle.std.proofs.Common.{◌≡◌, ◌≤◌, ◌+◌, ◌-◌, ◌/◌, ◌++◌, drop, length}
use Rattle.tl_bits.specs.Sets.{members}
use Rattle.tl_join.specs.There.{members_from}
use Rattle.tl_join.proofs.there.start_ids.Given as goal

abbrev pub invariant-members : goal.invariant-members
invariant-members g l = (l.at ≤ length l.start) × (l.ids.items ++ members_from l.at (drop l.at l.start) ≡ members l.start) × (l.steps ≤ l.initial.steps + l.at / 64 + length l.ids.items)

abbrev pub decreases-members : goal.decreases-members
decreases-members g l = length l.start - l.at
